-- The workstation's calls, by what the numbers name. Assumes nothing.
use mathlib.Core.Path.{◌≡◌, refl, sym, ap, ◌∙◌}
use mathlib.Core.Logic.{◌≢◌}
use mathlib.Core.Bool.{Bool, true, true≢false}
use mathlib.Core.List.{List}
use Prim.Native.Nat.{ℕ}
use lib.Dec.{eqb}
use lib.ListN.{length}
use borrow.Author.Tests.{eq-eqb, ne_eqb}
use Rattle.std.specs.Prelude.{Some, None, Ok, Err, Result, if◌then◌else◌}
use Rattle.std.specs.Result.{is_ok}
use Rattle.cobs.specs.Answers.{Told, tell}
use Rattle.dec.proofs.Cases.{by_bool}
use Rattle.cobs.specs.declared.refusals.BadState.{BadState}
use Rattle.batch.specs.State.{told_standing, stands_told}
use Rattle.batch.specs.declared.Standing.{Standing}
use Rattle.batch.specs.declared.Standing.TheVariants as stand
use Rattle.wire.specs.Again.{Received}
use Rattle.wire.specs.Loop.{Side, received}
use Rattle.wire.specs.Receive.{End, accepting}
use Rattle.wire.specs.Call.{told_received, start, calls, wire_of, leaves}
use Rattle.wire.specs.declared.Wire.{Wire}
use Rattle.wire.specs.declared.Receipt.{Receipt}
use Rattle.numbers.specs.Numbers.{numbers_of, names, read_of, written_to, read_back}
use Rattle.numbers.proofs.Naming.{named_by, none_by, other-read}
use Rattle.capi.specs.Stream.{open_told, open_state, open_found, call, receive_told, receive_consumed, receive_state, receive_found, receive_buffer, receive_table, state_told, state_total}

-- ---- open

module _ (ns : List ℕ) (batch n : ℕ) where
  pub open-refused : length ns ≢ 74 → (tell 6 0 0 ≡ open_told ns) × ((ns ≡ open_state ns batch n) × (read_of ns ≡ open_found ns batch n))
  unfolding open_told open_state open_found written_to
  open-refused h = (rw (ne_eqb (length ns) 74 h) refl, (rw (ne_eqb (length ns) 74 h) refl, other-read ns (start batch n) h))

  pub open_done : length ns ≡ 74 → (w : Wire) → w ≡ start batch n → (left : List ℕ) → left ≡ written_to ns w → read_of left ≡ read_back ns w
      → (tell 0 0 0 ≡ open_told ns) × ((left ≡ open_state ns batch n) × (read_of left ≡ open_found ns batch n))
  unfolding open_told open_state open_found
  open_done h w e left k named = (rw (eq-eqb (length ns) 74 h) refl, (k ∙ ap (written_to ns) e, named ∙ ap (read_back ns) e))

-- A total stands beside an answer that is no BadState.
ok-total : (total : ℕ) (a : Result Standing BadState) → (if is_ok a then total else 0) ≡ (if eqb (told_standing a).number 6 then 0 else total)
ok-total total = elim [ Ok stand.Open ↦ refl | Ok (stand.Missing k) ↦ refl | Ok stand.Complete ↦ refl | Ok stand.Differs ↦ refl | Err e ↦ refl ]

-- ---- receive

module _ (ns : List ℕ) where
  module _ (buffer table piece : List ℕ) where
    pub receive-none : None ≡ read_of ns
        → (tell 6 0 0 ≡ receive_told ns buffer table piece) × ((0 ≡ receive_consumed ns buffer table piece) × ((ns ≡ receive_state ns buffer table piece)
        × ((read_of ns ≡ receive_found ns buffer table piece) × ((buffer ≡ receive_buffer ns buffer table piece) × (table ≡ receive_table ns buffer table piece)))))
    unfolding receive_told receive_consumed receive_state receive_found receive_buffer receive_table
    receive-none e = rw (none_by ns e) (refl, (refl, (refl, (sym e, (refl, refl)))))

    module _ (w : Wire) (named : Some w ≡ read_of ns) (r : Receipt) (b t : List ℕ) (left : leaves r b t ≡ received accepting (calls w buffer table) piece)
        (s : List ℕ) (kept : s ≡ written_to ns r.next) (still : read_of s ≡ read_back ns r.next) (told : Told) (answer : told ≡ told_received r.answer) where
      whole : leaves r b t ≡ call ns buffer table piece
      whole = left ∙ ap (λ (v : Wire). received accepting (calls v buffer table) piece) (named_by ns w named).1

      long : (ns : List ℕ) → names ns ≡ true → eqb (length ns) 74 ≡ true
      unfolding names
      long ns e = by_bool (eqb (length ns) 74) (λ q. q) (λ q. absurd (true≢false (sym (rw q at e))))

      pub receive-some :
          (told ≡ receive_told ns buffer table piece) × ((r.consumed ≡ receive_consumed ns buffer table piece) × ((s ≡ receive_state ns buffer table piece)
          × ((read_of s ≡ receive_found ns buffer table piece) × ((b ≡ receive_buffer ns buffer table piece) × (t ≡ receive_table ns buffer table piece)))))
      unfolding receive_told receive_consumed receive_state receive_found receive_buffer receive_table written_to read_back
      receive-some =
          rw (named_by ns w named).0 (
            answer ∙ ap (λ (x : Received (Side End)). x.answer) whole,
            (
              ap (λ (x : Received (Side End)). x.consumed) whole,
              (
                kept ∙ rw (long ns (named_by ns w named).0) (ap (λ (x : Received (Side End)). numbers_of (wire_of x.side)) whole),
                (
                  still
                      ∙ rw (long ns (named_by ns w named).0)
                      (ap (λ (x : Received (Side End)). Some (wire_of x.side)) whole),
                  (ap (λ (x : Received (Side End)). x.side.buffer) whole, ap (λ (x : Received (Side End)). x.side.state.table) whole),
                ),
              ),
            ),
          )

  -- ---- stands

  module _ (n : ℕ) where
    pub stands-none : None ≡ read_of ns → (tell 6 0 0 ≡ state_told ns n) × (0 ≡ state_total ns n)
    unfolding state_told state_total
    stands-none e = rw (none_by ns e) (refl, refl)

    module _ (w : Wire) (named : Some w ≡ read_of ns) (a : Result Standing BadState) (stands : told_standing a ≡ stands_told w.receiver n) where
      pub stands-some : told_standing a ≡ state_told ns n
      unfolding state_told
      stands-some = stands ∙ ap (λ (v : Wire). stands_told v.receiver n) (named_by ns w named).1 ∙ rw (named_by ns w named).0 refl

      pub stands-total : (ok : Bool) → ok ≡ is_ok a → (if ok then w.receiver.total else 0) ≡ state_total ns n
      unfolding state_total
      stands-total ok e =
          rw (e, ← stands-some, ← ap (λ (v : Wire). v.receiver.total) (named_by ns w named).1) (ok-total w.receiver.total a)
