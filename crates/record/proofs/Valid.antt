-- What valid fields are, and the class of a batch difference. Assumes nothing.
use Rattle.std.proofs.Common.{◌≡◌, ℕ, ◌+◌, ◌-◌, ◌%◌, ◌<◌, ◌≤◌, Bool, true, false, ◌||◌, eqb, leb, refl, arith, eq-eqb, eqb-true, leb-true, if◌then◌else◌}
use Rattle.std.proofs.lemmas.Bool.{and_parts}
use Rattle.cobs.specs.Answers.{Told, is_done}
use Rattle.cobs.proofs.Told.{same-told}
use Rattle.record.specs.Record.{is_particle, is_close, is_valid, class_of, told_class}
use Rattle.record.specs.declared.Fields.{Fields}
use Rattle.record.specs.declared.Class.{Class}
use Rattle.record.specs.declared.Class.TheVariants.{Ours, Ahead, Stale}

-- ---- what valid fields are

-- A particle, or a close.
pub data Valid (f : Fields) : Type 0 where
  particle : f.board ≡ 0 → f.kind ≡ 1 → f.weight ≤ 1000000 → Valid f
  close : f.board ≡ 0 → f.kind ≡ 2 → f.index ≤ 4096 → f.x ≡ 0 → f.y ≡ 0 → f.z ≡ 0 → Valid f

says-particle : (f : Fields) → f.board ≡ 0 → is_particle f ≡ true → Valid f
says-particle f b e = let k = and_parts (eqb f.kind 1) (leb f.weight 1000000) e in particle b (eqb-true _ _ k.0) (leb-true _ _ k.1)

says-close : (f : Fields) → f.board ≡ 0 → is_close f ≡ true → Valid f
says-close f b e =
    let k = and_parts (eqb f.kind 2) _ e in
    let n = and_parts (leb f.index 4096) _ k.1 in
    let x = and_parts (eqb f.x 0) _ n.1 in
    let y = and_parts (eqb f.y 0) _ x.1 in
    close b (eqb-true _ _ k.0) (leb-true _ _ n.0) (eqb-true _ _ x.0) (eqb-true _ _ y.0) (eqb-true _ _ y.1)

pub valid-says : (f : Fields) → is_valid 0 f ≡ true → Valid f
unfolding is_valid
valid-says f e =
    let b = and_parts (eqb f.board 0) (is_particle f || is_close f) e in
    go (eqb-true _ _ b.0) (is_particle f) refl b.1
  where
    go : f.board ≡ 0 → (p : Bool) → is_particle f ≡ p → (p || is_close f) ≡ true → Valid f
    go b true ep h = says-particle f b ep
    go b false ep h = says-close f b h

-- ---- the batch difference

-- a class is the one that is told
back_class : Told → Class
back_class t = if is_done t then Ours else if eqb t.number 10 then Ahead else Stale

class_back : (a : Class) → back_class (told_class a) ≡ a
unfolding back_class
class_back Ours = refl
class_back Ahead = refl
class_back Stale = refl

pub class-told : (a b : Class) → told_class a ≡ told_class b → a ≡ b
class-told a b e = same-told told_class back_class class_back e

-- our own batch is ours
pub class_same : (n : ℕ) → n < 65536 → class_of n n ≡ Ours
unfolding class_of
class_same n h = rw (eq-eqb ((n + (65536 - n)) % 65536) 0 (omega arith))
