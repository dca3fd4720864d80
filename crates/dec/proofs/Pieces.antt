-- A piece, byte by byte: what is left of it from here, and that it may be cut anywhere. Assumes nothing.
use Rattle.std.specs.Prelude.{if◌then◌else◌, Ok, Err}
use mathlib.Core.Path.{◌≡◌, refl, sym, ap, ◌∙◌}
use mathlib.Core.Bool.{true, false, false≢true}
use mathlib.Core.List.{List, [], ◌∷◌, ◌++◌}
use Prim.Native.Nat.{ℕ, suc, ◌+◌}
use native.Mathlib.Nat.{zero-add}
use native.Mathlib.Omega.{arith}
use lib.Dec.{ltb}
use lib.ListN.{length, length-set}
use Rattle.cobs.specs.Answers.{tell}
use Rattle.dec.specs.State.{Given, stepped}
use Rattle.dec.specs.Stream.{bad, result_outcome, Outcome, goes, stops, is_more, result_dest, byte_outcome, byte_dest, further, joined, piece_outcome, piece_dest, push_outcome, push_dest}
use Rattle.dec.specs.declared.state.DecoderState.{DecoderState}
use Rattle.dec.specs.declared.state.DecodeResult.TheVariants.{NoData, DataStart, DataComplete, DataContinue}
use Rattle.dec.specs.declared.stream.CobsDecoder.{CobsDecoder}
use Rattle.dec.proofs.Cases.{by_bool}
use Rattle.dec.proofs.Good.{good_of, of_good, good_piece}

-- ---- lengths

length-result : (place : ℕ) (r : Given) (dest : List ℕ) → length (result_dest place r dest) ≡ length dest
length-result place (Ok NoData) dest = refl
length-result place (Ok DataStart) dest = refl
length-result place (Ok DataComplete) dest = refl
length-result place (Ok (DataContinue b)) dest = length-set dest place b
length-result place (Err _) dest = refl

pub length-byte : (d : CobsDecoder) (b : ℕ) (dest : List ℕ) → length (byte_dest d b dest) ≡ length dest
unfolding byte_dest
length-byte d b dest = by_bool d.skip (λ e. rw e) (λ e. rw e (length-result d.place (stepped d.state b).result dest))

pub length_piece : (p : List ℕ) (d : CobsDecoder) (room : ℕ) (dest : List ℕ) → length (piece_dest d room p dest) ≡ length dest
unfolding piece_dest
length_piece [] d room dest = refl
length_piece (b ∷ p) d room dest =
    by_bool (is_more (byte_outcome d room b))
    (λ e. rw e (length_piece p (byte_outcome d room b).next room (byte_dest d b dest) ∙ length-byte d b dest))
    (λ e. rw e (length-byte d b dest))

-- ---- an outcome further on

module _ (n : ℕ) (o : Outcome) where
  pub further-keeps : is_more o ≡ true → further n o ≡ o
  unfolding further
  further-keeps e = rw e

  pub further-counts : is_more o ≡ false → further n o ≡ stops o.next (tell o.answer.number o.answer.first (n + o.answer.second))
  unfolding further
  further-counts e = rw e

  pub further-more : is_more (further n o) ≡ is_more o
  further-more = by_bool (is_more o) (λ e. rw (further-keeps e)) (λ e. rw (further-counts e))

  -- an outcome that goes on goes on wherever it is counted from
  pub further-goes : (d : CobsDecoder) → further n o ≡ goes d → o ≡ goes d
  further-goes d q = by_bool (is_more o) (λ e. sym (further-keeps e) ∙ q) (λ e. absurd (false≢true (sym e ∙ sym further-more ∙ ap is_more q)))

  pub joined-more : (r : Outcome) → is_more o ≡ true → joined o n r ≡ further n r
  unfolding joined
  joined-more r e = rw e

  pub joined_stop : (r : Outcome) → is_more o ≡ false → joined o n r ≡ o
  unfolding joined
  joined_stop r e = rw e

pub further_zero : (o : Outcome) → further 0 o ≡ o
further_zero o = by_bool (is_more o) (further-keeps 0 o) (λ e. further-counts 0 o e ∙ rw zero-add)

pub further_add : (i j : ℕ) (o : Outcome) → further i (further j o) ≡ further (i + j) o
further_add i j o =
    by_bool (is_more o) (λ e. rw (further-keeps j o e, further-keeps i o e, further-keeps (i + j) o e))
    (λ e.
    ap (further i) (further-counts j o e)
    ∙ further-counts i (stops o.next (tell o.answer.number o.answer.first (j + o.answer.second))) e
    ∙ ap (λ (n : ℕ). stops o.next (tell o.answer.number o.answer.first n)) (omega arith)
    ∙ sym (further-counts (i + j) o e))

-- ---- one byte of a piece

module _ (d : CobsDecoder) (room b : ℕ) (p : List ℕ) where
  pub piece_goes : (d' : CobsDecoder) → byte_outcome d room b ≡ goes d' → piece_outcome d room (b ∷ p) ≡ further 1 (piece_outcome d' room p)
  unfolding piece_outcome
  piece_goes d' e = rw e (joined-more 1 (goes d') (piece_outcome d' room p) refl)

  pub piece_stops : is_more (byte_outcome d room b) ≡ false → piece_outcome d room (b ∷ p) ≡ byte_outcome d room b
  unfolding piece_outcome
  piece_stops e = joined_stop 1 (byte_outcome d room b) (piece_outcome (byte_outcome d room b).next room p) e

  pub dest-goes : (d' : CobsDecoder) → byte_outcome d room b ≡ goes d' → (m : List ℕ) → piece_dest d room (b ∷ p) m ≡ piece_dest d' room p (byte_dest d b m)
  unfolding piece_dest
  dest-goes d' e m = rw e

  pub dest-stops : is_more (byte_outcome d room b) ≡ false → (m : List ℕ) → piece_dest d room (b ∷ p) m ≡ byte_dest d b m
  unfolding piece_dest
  dest-stops e m = rw e

-- a byte after which the piece goes on gives nothing but the decoder
result-goes : (place room : ℕ) (s : DecoderState) (r : Given) → is_more (result_outcome place room s r) ≡ true
    → result_outcome place room s r ≡ goes (result_outcome place room s r).next
result-goes place room s (Ok NoData) e = refl
result-goes place room s (Ok DataStart) e = refl
result-goes place room s (Ok DataComplete) e = absurd (false≢true e)
result-goes place room s (Ok (DataContinue x)) e = by_bool (ltb place room) (λ q. rw q) (λ q. absurd (false≢true (rw q at e)))
result-goes place room s (Err _) e = absurd (false≢true e)

pub byte-goes : (d : CobsDecoder) (room b : ℕ) → is_more (byte_outcome d room b) ≡ true → byte_outcome d room b ≡ goes (byte_outcome d room b).next
unfolding byte_outcome
byte-goes d room b =
    by_bool d.skip (λ q. rw q (λ e. refl)) (λ q. rw q (result-goes d.place room (stepped d.state b).state (stepped d.state b).result))

pub piece_more : (p : List ℕ) (d : CobsDecoder) (room : ℕ) → is_more (piece_outcome d room p) ≡ true → piece_outcome d room p ≡ goes (piece_outcome d room p).next
unfolding piece_outcome
piece_more [] d room e = refl
piece_more (b ∷ p) d room e =
    by_bool (is_more (byte_outcome d room b))
    (λ f.
    let rest : Outcome = piece_outcome (byte_outcome d room b).next room p in
    let on : piece_outcome d room (b ∷ p) ≡ further 1 rest = piece_goes d room b p (byte_outcome d room b).next (byte-goes d room b f) in
    let more : is_more rest ≡ true = sym (further-more 1 rest) ∙ ap is_more (sym on) ∙ e in
    let same : piece_outcome d room (b ∷ p) ≡ rest = on ∙ further-keeps 1 rest more in
    same ∙ piece_more p (byte_outcome d room b).next room more ∙ ap (λ (o : Outcome). goes o.next) (sym same))
    (λ f. absurd (false≢true (sym (ap is_more (piece_stops d room b p f) ∙ f) ∙ e)))

-- ---- cut anywhere

further-joined : (i n : ℕ) (o r : Outcome) → further i (joined o n r) ≡ joined (further i o) (i + n) r
further-joined i n o r =
    by_bool (is_more o)
    (λ e. ap (further i) (joined-more n o r e) ∙ further_add i n r ∙ sym (joined-more (i + n) (further i o) r (further-more i o ∙ e)))
    (λ e. ap (further i) (joined_stop n o r e) ∙ sym (joined_stop (i + n) (further i o) r (further-more i o ∙ e)))

pub further-next : (n : ℕ) (o : Outcome) → (further n o).next ≡ o.next
further-next n o = by_bool (is_more o) (λ e. rw (further-keeps n o e)) (λ e. rw (further-counts n o e))

module _ (q : List ℕ) (room : ℕ) where
  cut_piece : (p : List ℕ) (d : CobsDecoder)
      → piece_outcome d room (p ++ q) ≡ joined (piece_outcome d room p) (length p) (piece_outcome (piece_outcome d room p).next room q)
  unfolding piece_outcome
  cut_piece [] d = sym (joined-more 0 (goes d) (piece_outcome d room q) refl ∙ further_zero (piece_outcome d room q))
  cut_piece (b ∷ p) d =
      let o : Outcome = byte_outcome d room b in
      let first : Outcome = piece_outcome o.next room p in
      by_bool (is_more o)
      (λ e.
      let whole : piece_outcome d room (b ∷ p) ≡ further 1 first = piece_goes d room b p o.next (byte-goes d room b e) in
      piece_goes d room b (p ++ q) o.next (byte-goes d room b e)
      ∙ ap (further 1) (cut_piece p o.next)
      ∙ further-joined 1 (length p) first (piece_outcome first.next room q)
      ∙ ap (λ (n : ℕ). joined (further 1 first) n (piece_outcome first.next room q)) (omega arith)
      ∙ ap (λ (x : CobsDecoder). joined (further 1 first) (suc (length p)) (piece_outcome x room q)) (sym (further-next 1 first))
      ∙ ap (λ (x : Outcome). joined x (suc (length p)) (piece_outcome x.next room q)) (sym whole))
      (λ e.
      let whole : piece_outcome d room (b ∷ p) ≡ o = piece_stops d room b p e in
      piece_stops d room b (p ++ q) e
      ∙ sym (joined_stop (suc (length p)) o (piece_outcome o.next room q) e)
      ∙ ap (λ (x : Outcome). joined x (suc (length p)) (piece_outcome x.next room q)) (sym whole))

  cut-dest : (p : List ℕ) (d : CobsDecoder) (m : List ℕ)
      → piece_dest d room (p ++ q) m
      ≡ (if is_more (piece_outcome d room p) then piece_dest (piece_outcome d room p).next room q (piece_dest d room p m) else piece_dest d room p m)
  unfolding piece_outcome piece_dest
  cut-dest [] d m = refl
  cut-dest (b ∷ p) d m =
      let o : Outcome = byte_outcome d room b in
      let first : Outcome = piece_outcome o.next room p in
      by_bool (is_more o)
      (λ e.
      rw (e, joined-more 1 o first e, further-more 1 first, further-next 1 first) (cut-dest p o.next (byte_dest d b m)))
      (λ e. rw (e, joined_stop 1 o first e, e))

-- ---- pushes

module _ (d : CobsDecoder) (room : ℕ) (g : bad d room ≡ false) where
  pub push_piece : (p : List ℕ) → push_outcome d room p ≡ piece_outcome d room p
  unfolding push_outcome
  push_piece p = rw g

  next-good : (p : List ℕ) → bad (piece_outcome d room p).next room ≡ false
  next-good p = of_good (piece_outcome d room p).next room (good_piece p d room (good_of d room g))

pub push_dest_piece : (d : CobsDecoder) (p m : List ℕ) → bad d (length m) ≡ false → push_dest d p m ≡ piece_dest d (length m) p m
unfolding push_dest
push_dest_piece d p m g = rw g

-- A piece in two parts, from every state that is not BadState: the second is taken where the first asks for more.
module _ (d : CobsDecoder) (p q : List ℕ) where
  pub push-cut : (room : ℕ) → bad d room ≡ false
      → push_outcome d room (p ++ q) ≡ joined (push_outcome d room p) (length p) (push_outcome (push_outcome d room p).next room q)
  push-cut room g =
      rw (push_piece d room g (p ++ q), push_piece d room g p, push_piece (piece_outcome d room p).next room (next-good d room g p) q) (cut_piece q room p d)

  pub push_dest-cut : (m : List ℕ) → bad d (length m) ≡ false
      → push_dest d (p ++ q) m
      ≡ (if is_more (push_outcome d (length m) p) then push_dest (push_outcome d (length m) p).next q (push_dest d p m) else push_dest d p m)
  push_dest-cut m g =
      let room : ℕ = length m in
      let l : length (piece_dest d (length m) p m) ≡ length m = length_piece p d (length m) m in
      let second : push_dest (piece_outcome d (length m) p).next q (piece_dest d (length m) p m) ≡ piece_dest (piece_outcome d (length m) p).next (length m) q (piece_dest d (length m) p m) =
      push_dest_piece (piece_outcome d (length m) p).next q (piece_dest d (length m) p m) (rw l (next-good d (length m) g p))
      ∙ ap (λ (n : ℕ). piece_dest (piece_outcome d (length m) p).next n q (piece_dest d (length m) p m)) l in
      rw (push_dest_piece d (p ++ q) m g, push_piece d (length m) g p, push_dest_piece d p m g, second) (cut-dest q (length m) p d m)
