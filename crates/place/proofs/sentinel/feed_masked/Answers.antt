-- `place::sentinel::feed_masked` meets its contract: byte by byte. Assumes nothing.
use mathlib.Core.Path.{◌≡◌, sym, ap, ◌∙◌}
use mathlib.Core.List.{List}
use Prim.Native.Nat.{ℕ, ◌<◌}
use native.Mathlib.Omega.{arith}
use lib.Bits.{bit_xor}
use lib.ListN.{length, get_or}
use Rattle.cobs.specs.Code.{masked}
use Rattle.cobs.proofs.Sentinel.{length-masked}
use Rattle.dec.specs.Stream.{Answer, outcome}
use Rattle.dec.proofs.Answers.{unlike-more, like-more}
use Rattle.place.proofs.Measured.{get_or-masked}
use Rattle.dec.proofs.Streamed.{streamed_none, streamed_more, streamed_stop}
use Rattle.place.proofs.sentinel.feed_masked.Goals as goal

-- a byte of the masked source
module _ (sentinel : ℕ) (src : List ℕ) (i : ℕ) (h : i < length src) where
  is_byte : bit_xor (get_or src i 0) sentinel ≡ get_or (masked sentinel src) i 0
  is_byte = sym (get_or-masked sentinel src i h)

  inside : i < length (masked sentinel src)
  inside = omega (arith, length-masked sentinel src)

pub shape_of-dest-then-ne : goal.shape_of-dest-then-ne
shape_of-dest-then-ne c = c.feed-fed.auto.dest ∙ c.loop-b.invariant.long

pub returns-then-ne : goal.returns-then-ne
returns-then-ne c =
    streamed_stop _ _ _ _ _ c.loop-b.invariant (inside _ _ _ c.loop-b-test.true) _ (is_byte _ _ _ c.loop-b-test.true) _ c.feed-fed.ensures.answer _ c.feed-fed.ensures.memory (unlike-more _ _ c.feed-fed.result _ c.ne.ensures c.if-ne.true)

pub loop-b-preserved : goal.loop-b-preserved
loop-b-preserved c =
    let w = c.loop-b-test.true in
    let z = c.feed-fed in
    let more = ap (λ (a : Answer). outcome (record { next = z.result.next; answer = a })) (like-more _ _ z.result _ c.ne.ensures c.if-ne.false) in
    streamed_more _ _ _ _ _ c.loop-b.invariant (inside _ _ _ w) _ (is_byte _ _ _ w) _ z.ensures.answer _ z.ensures.memory z.auto.dest _ more

pub loop-b-init : goal.loop-b-init
loop-b-init c = streamed_none _ _ _ c.new-decoder.ensures
