-- A list fed byte by byte to a new decoder leaves what one push of it leaves. Assumes nothing.
use mathlib.Core.Path.{◌≡◌, refl, sym, ap, ◌∙◌}
use mathlib.Core.Bool.{false}
use mathlib.Core.List.{List, [], ◌∷◌, ◌++◌}
use Prim.Native.Nat.{ℕ, ◌+◌, ◌<◌}
use native.Mathlib.Numerals.{add-one}
use lib.ListN.{length, get_or, take, drop, take-append-drop}
use lib.Seq.{take-suc}
use Rattle.dec.specs.Stream.{new, Outcome, goes, is_more, further, joined, piece_outcome, piece_dest, push_outcome, push_dest}
use Rattle.dec.specs.declared.stream.CobsDecoder.{CobsDecoder}
use Rattle.dec.proofs.Good.{new-good}
use Rattle.dec.proofs.Pieces.{further-keeps, further-more, joined-more, push_piece, push_dest_piece, push-cut, push_dest-cut}

-- Of the list p, i bytes are fed, and none of them stopped the decoder.
pub record Streamed (p d₀ : List ℕ) (i : ℕ) (d : CobsDecoder) (m : List ℕ) : Type 0 where
  pub outcome : push_outcome new (length d₀) (take i p) ≡ goes d
  pub memory : m ≡ push_dest new (take i p) d₀
  pub long : length m ≡ length d₀

pub streamed_none : (p d₀ : List ℕ) (d : CobsDecoder) → d ≡ new → Streamed p d₀ 0 d d₀
unfolding piece_outcome piece_dest
streamed_none p d₀ d e =
    record {
      outcome = push_piece new (length d₀) (new-good (length d₀)) [] ∙ ap goes (sym e);
      memory = sym (push_dest_piece new [] d₀ (new-good (length d₀)));
      long = refl;
    }

module _ (p d₀ : List ℕ) (i : ℕ) (d : CobsDecoder) (m : List ℕ) (w : Streamed p d₀ i d m) (h : i < length p) (b : ℕ) (eb : b ≡ get_or p i 0)
    (o : Outcome) (e : o ≡ push_outcome d (length m) (b ∷ [])) (m' : List ℕ) (q : m' ≡ push_dest d (b ∷ []) m) where
  front : take (i + 1) p ≡ take i p ++ b ∷ []
  front = rw (add-one i, eb) (take-suc p i 0 h)

  next : push_outcome new (length d₀) (take (i + 1) p) ≡ further (length (take i p)) o
  next =
      ap (push_outcome new (length d₀)) front
      ∙ push-cut new (take i p) (b ∷ []) (length d₀) (new-good (length d₀))
      ∙ ap (λ (x : Outcome). joined x (length (take i p)) (push_outcome x.next (length d₀) (b ∷ []))) w.outcome
      ∙ joined-more (length (take i p)) (goes d) (push_outcome d (length d₀) (b ∷ [])) refl
      ∙ ap (further (length (take i p))) (sym (e ∙ ap (λ (n : ℕ). push_outcome d n (b ∷ [])) w.long))

  left : m' ≡ push_dest new (take (i + 1) p) d₀
  left =
      sym
      (ap (λ (s : List ℕ). push_dest new s d₀) front
      ∙ push_dest-cut new (take i p) (b ∷ []) d₀ (new-good (length d₀))
      ∙ rw w.outcome (ap (push_dest d (b ∷ [])) (sym w.memory) ∙ sym q))

  -- the byte goes on
  pub streamed_more : length m' ≡ length m → (d' : CobsDecoder) → o ≡ goes d' → Streamed p d₀ (i + 1) d' m'
  streamed_more l d' f =
      record {
        outcome = next ∙ ap (further (length (take i p))) f ∙ further-keeps (length (take i p)) (goes d') refl;
        memory = left;
        long = l ∙ w.long;
      }

  -- it stops: the rest of the list is not taken
  pub streamed_stop : is_more o ≡ false → m' ≡ push_dest new p d₀
  streamed_stop f =
      let s : is_more (push_outcome new (length d₀) (take (i + 1) p)) ≡ false = ap is_more next ∙ further-more (length (take i p)) o ∙ f in
      left
      ∙ sym
      (ap (λ (x : List ℕ). push_dest new x d₀) (sym (take-append-drop (i + 1) p))
      ∙ push_dest-cut new (take (i + 1) p) (drop (i + 1) p) d₀ (new-good (length d₀))
      ∙ rw s)
