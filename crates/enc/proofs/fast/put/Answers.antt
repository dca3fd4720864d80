-- `enc::fast::put` meets its contract. Assumes nothing.
use mathlib.Core.Path.{◌≡◌, ap, ◌∙◌}
use Prim.Native.Nat.{◌+◌, ◌-◌, ◌<◌, ◌≤◌}
use mir.Val.{bool_byte}
use borrow.Author.Tests.{lt-ltb, le-ltb}
use native.Mathlib.Omega.{arith}
use lib.ListN.{length}
use Rattle.enc.proofs.Opens.{kept_on, all-written, kept-code, close-end, inside}
use Rattle.enc.proofs.Turns.{group-turn}
use Rattle.enc.proofs.fast.put.Goals as goal

pub bounds-dest-s : goal.bounds-dest-s
bounds-dest-s c = omega (arith, inside c.bytes-n.ensures.next.0)

pub returns-then-from-src : goal.returns-then-from-src
returns-then-from-src c =
    let o = c.bytes-n.ensures.next.0 in
    let e = close-end _ _ _ _ _ _ o c.if-from-src.true in
    record { length = e.0; memory = all-written _ _ _ c.requires e.1 (kept_on (kept_on c.loop-s.invariant.1 c.bytes-n.ensures.kept) (kept-code _ _ _ _ _ _ o)) }

pub loop-s-preserved : goal.loop-s-preserved
loop-s-preserved c =
    let e = c.bytes-n.ensures.next in
    let s = c.loop-s.s in
    let i = s.from + c.bytes-n.result in
    let out = s.at + c.bytes-n.result in
    let l : i < length c.args.src.now = omega (arith, e.0.within, c.if-from-src.false) in
    let zero : out - s.place < 255 → c.from-zero.result ≡ 1 = λ p. c.from-zero.ensures ∙ ap bool_byte (lt-ltb _ _ p) in
    let none : 255 ≤ out - s.place → c.from-zero.result ≡ 0 = λ p. c.from-zero.ensures ∙ ap bool_byte (le-ltb _ _ p) in
    let t = group-turn c.args.src.now i s.place out c.bytes-n.new.dest e.0 l (λ p. e.1.stops l (omega arith)) (i + c.from-zero.result)
    (λ p. omega (arith, zero (omega arith)))
    (λ p. omega (arith, none (omega arith))) in
    (t, kept_on (kept_on c.loop-s.invariant.1 c.bytes-n.ensures.kept) (kept-code _ _ _ _ _ _ e.0), omega arith)
