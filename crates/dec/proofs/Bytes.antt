-- One byte fed to the decoder: a law for each way through `take`. Assumes nothing.
use Rattle.std.specs.Prelude.{if◌then◌else◌, Ok, Err}
use mathlib.Core.Path.{◌≡◌, refl, sym, ap, ◌∙◌}
use mathlib.Core.Bool.{true, false}
use mathlib.Core.Logic.{◌⊎◌, ⊎_elim}
use mathlib.Core.List.{List}
use Prim.Native.Nat.{ℕ, ◌+◌, ◌-◌, ◌≤◌, ◌<◌}
use native.Mathlib.Numerals.{add-one}
use native.Mathlib.Omega.{arith}
use lib.Dec.{eqb}
use lib.ListN.{length, set}
use lib.Seq.{set_out}
use borrow.Author.Tests.{lt-ltb, le-ltb}
use Rattle.cobs.specs.Answers.{done, invalid_frame, target_buf_too_small}
use Rattle.dec.specs.State.{Given, stepped}
use Rattle.dec.specs.Stream.{at, new, skipping, Outcome, goes, stops, result_outcome, byte_outcome, result_dest, byte_dest, further}
use Rattle.dec.specs.declared.state.DecodeResult.{DecodeResult}
use Rattle.dec.specs.declared.state.DecodeResult.TheVariants.{NoData, DataStart, DataComplete, DataContinue}
use Rattle.dec.specs.declared.state.Stepped.{Stepped}
use Rattle.dec.specs.declared.stream.CobsDecoder.{CobsDecoder}

-- What one byte comes to, told n bytes into a piece, and what it leaves in the destination.
abbrev Taken : CobsDecoder → (b n : ℕ) (o : Outcome) (dest left : List ℕ) → Type 0
Taken d b n o dest left = (o ≡ further (n - 1) (byte_outcome d (length dest) b)) × (left ≡ byte_dest d b dest)

module _ (d : CobsDecoder) (b n : ℕ) (dest : List ℕ) where
  pub taken_skip : d.skip ≡ true → (o : Outcome) → o ≡ goes (if eqb b 0 then new else d) → Taken d b n o dest dest
  unfolding byte_outcome byte_dest further
  taken_skip s o e = (simp (s, e), simp s)

  module _ (s : d.skip ≡ false) (t : Stepped) (e : t ≡ stepped d.state b) where
    by_result : (r : Given) → t.result ≡ r → (o : Outcome) (left : List ℕ)
        → o ≡ further (n - 1) (result_outcome d.place (length dest) t.state r) → left ≡ result_dest d.place r dest → Taken d b n o dest left
    unfolding byte_outcome byte_dest
    by_result r q o left p m = (rw (s, ← e, q) p, rw (s, ← e, q) m)

    pub taken-nothing : (g : DecodeResult) → t.result ≡ Ok g → (g ≡ NoData) ⊎ (g ≡ DataStart) → (o : Outcome) → o ≡ goes (at d.place t.state)
        → Taken d b n o dest dest
    unfolding further
    taken-nothing g q w o p = ⊎_elim (λ e. by_result (Ok NoData) (rw e at q) o dest p refl) (λ e. by_result (Ok DataStart) (rw e at q) o dest p refl) w

    pub taken-byte : (x : ℕ) → t.result ≡ Ok (DataContinue x) → d.place < length dest → (o : Outcome) → o ≡ goes (at (d.place + 1) t.state)
        → Taken d b n o dest (set dest d.place x)
    unfolding further
    taken-byte x q h o p = by_result (Ok (DataContinue x)) q o (set dest d.place x) (rw (lt-ltb d.place (length dest) h, p, add-one d.place)) refl

    module _ (k : 0 < n) where
      count : n ≡ n - 1 + 1
      count = omega arith

      pub taken-small : (x : ℕ) → t.result ≡ Ok (DataContinue x) → length dest ≤ d.place → (f : CobsDecoder) → f ≡ skipping
          → Taken d b n (stops f (target_buf_too_small n)) dest dest
      unfolding further
      taken-small x q h f p =
          by_result (Ok (DataContinue x)) q _ dest (rw (p, le-ltb d.place (length dest) h) (ap (λ (j : ℕ). stops skipping (target_buf_too_small j)) count))
          (sym (set_out dest d.place x h))

      pub taken-frame : t.result ≡ Ok DataComplete → (o : Outcome) → o ≡ stops new (done d.place n) → Taken d b n o dest dest
      unfolding further
      taken-frame q o p = by_result (Ok DataComplete) q o dest (p ∙ ap (λ (j : ℕ). stops new (done d.place j)) count) refl

      pub taken_invalid : t.result ≡ Err (record {}) → (o : Outcome) → o ≡ stops new (invalid_frame d.place n) → Taken d b n o dest dest
      unfolding further
      taken_invalid q o p = by_result (Err (record {})) q o dest (p ∙ ap (λ (j : ℕ). stops new (invalid_frame d.place j)) count) refl
