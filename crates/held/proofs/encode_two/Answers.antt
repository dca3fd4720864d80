-- `held::encode_two` meets its contract: each call tells what it is to tell of the encoder and the buffer that the call before left.
-- Assumes nothing.
use borrow.Author.Rules.{rules}
use mathlib.Core.Path.{◌≡◌, ap, ap₂, ◌∙◌}
use mathlib.Core.List.{List, [], ◌∷◌}
use Prim.Native.Nat.{ℕ}
use lib.ListN.{length}
use Rattle.enc.specs.Stream.{fresh, start_told, told, push_told, push_next, push_dest, told_finished, finish_told, finish_dest}
use Rattle.enc.specs.declared.stream.Encoder.{Encoder}
use Rattle.held.specs.Held.{told_opened, next₁, dest₁, next₂, dest₂, told_two, two_told, two_dest}
use Rattle.held.specs.declared.CobsEncoder.{CobsEncoder}
use Rattle.held.specs.declared.TwoPieces.{TwoPieces}
use Rattle.held.proofs.encode_two.Goals as goal

-- What each call tells makes what all of them tell, and the buffer that the last leaves is the buffer afterwards.
module _ (d a b : List ℕ) (r : TwoPieces) (zs : List ℕ) where
  all_told : told_opened r.opened ≡ start_told (length d) → told r.first ≡ push_told fresh a (length d)
      → told r.second ≡ push_told (next₁ d a) b (length (dest₁ d a)) → told_finished r.finished ≡ finish_told (next₂ d a b) (length (dest₂ d a b))
      → told_two r ≡ two_told d a b
  unfolding two_told
  all_told o f s e i = o i ∷ f i ∷ s i ∷ e i ∷ []

  buffer-after : zs ≡ finish_dest (next₂ d a b) (dest₂ d a b) → zs ≡ two_dest d a b
  unfolding two_dest
  buffer-after e = e

pub returns : goal.returns
returns c =
    let d = c.args.dest.now in
    let a = c.args.first.now in
    let b = c.args.second.now in
    let e = c.start_on-opened.ensures.encoder in
    let m = c.start_on-opened.ensures.memory in
    let h : CobsEncoder = c.push-first.new.self in
    let k : CobsEncoder = c.push-second.new.self in
    let e₁ : h.encoder ≡ next₁ d a =
    ap (λ (x : CobsEncoder). x.encoder) c.push-first.ensures.1 ∙ ap₂ (λ (x : Encoder) (y : List ℕ). push_next x a (length y)) e m in
    let m₁ : h.dest.now ≡ dest₁ d a =
    ap (λ (x : CobsEncoder). x.dest.now) c.push-first.ensures.1 ∙ ap₂ (λ (x : Encoder) (y : List ℕ). push_dest x a y) e m in
    let e₂ : k.encoder ≡ next₂ d a b =
    ap (λ (x : CobsEncoder). x.encoder) c.push-second.ensures.1 ∙ ap₂ (λ (x : Encoder) (y : List ℕ). push_next x b (length y)) e₁ m₁ in
    let m₂ : k.dest.now ≡ dest₂ d a b =
    ap (λ (x : CobsEncoder). x.dest.now) c.push-second.ensures.1 ∙ ap₂ (λ (x : Encoder) (y : List ℕ). push_dest x b y) e₁ m₁ in
    let left = buffer-after d a b (record { opened = c.start_on-opened.result.1; first = c.push-first.result; second = c.push-second.result; finished = c.finalize-finished.result }) _ (c.finalize-finished.ensures.1 ∙ ap₂ (λ (x : Encoder) (y : List ℕ). finish_dest x y) e₂ m₂) in (
      all_told d a b _ []
          c.start_on-opened.ensures.answer
          (c.push-first.ensures.0 ∙ ap₂ (λ (x : Encoder) (y : List ℕ). push_told x a (length y)) e m)
          (c.push-second.ensures.0 ∙ ap₂ (λ (x : Encoder) (y : List ℕ). push_told x b (length y)) e₁ m₁)
          (c.finalize-finished.ensures.0 ∙ ap₂ (λ (x : Encoder) (y : List ℕ). finish_told x (length y)) e₂ m₂),
      search (rules, left),
    )
