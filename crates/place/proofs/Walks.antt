-- The walk over a body's groups: what each of its answers says. Assumes nothing.
use Rattle.std.specs.Prelude.{Ok, Err}
use mathlib.Core.Path.{◌≡◌, subst}
use mathlib.Core.List.{List}
use Prim.Native.Nat.{ℕ, ◌+◌, ◌-◌, ◌≤◌, ◌<◌}
use native.Mathlib.Omega.{arith}
use lib.Dec.{eqb, ltb}
use lib.ListN.{length}
use borrow.Author.Tests.{eqb-true, eqb-false, ltb-true, ltb-false}
use Rattle.cobs.specs.Code.{body}
use Rattle.dec.proofs.Cases.{by_bool}
use Rattle.place.specs.Walk.{first, past}
use Rattle.place.specs.declared.place.BodyError.{BodyError}
use Rattle.place.specs.declared.place.BodyError.TheVariants.{EmptyFrame, InvalidFrame}
use Rattle.place.specs.declared.walk.Walk.{Walk}

-- no walk: what a claim about the refusal needs
pub no_first : (P : BodyError → Type 0) (p : List ℕ) (e : BodyError)
    → (length p ≡ 0 → P EmptyFrame) → ((length p ≡ 0 → ⊥) → length (body p) ≡ 0 → P (InvalidFrame 0))
    → first p ≡ Err e → P e
no_first P p e empty none f =
    by_bool (eqb (length p) 0)
    (λ q. let w : Err EmptyFrame ≡ Err e = rw q at f in let r : EmptyFrame ≡ e = cc in subst P r (empty (eqb-true (length p) 0 q)))
    (λ q.
    by_bool (eqb (length (body p)) 0)
    (λ s. let w : Err (InvalidFrame 0) ≡ Err e = rw (q, s) at f in let r : InvalidFrame 0 ≡ e = cc in subst P r (none (eqb-false (length p) 0 q) (eqb-true (length (body p)) 0 s)))
    (λ s. let w : Ok (record { from = 0; to = 0; end = length (body p) }) ≡ Err e = rw (q, s) at f in absurd cc))

pub record First (p : List ℕ) (w : Walk) : Type 0 where
  pub from : w.from ≡ 0
  pub to : w.to ≡ 0
  pub end : w.end ≡ length (body p)
  pub some : 0 < length (body p)

pub is_first : (p : List ℕ) (w : Walk) → first p ≡ Ok w → First p w
is_first p w f =
    by_bool (eqb (length p) 0) (λ q. let z : Err EmptyFrame ≡ Ok w = rw q at f in absurd cc)
    (λ q.
    by_bool (eqb (length (body p)) 0) (λ s. let z : Err (InvalidFrame 0) ≡ Ok w = rw (q, s) at f in absurd cc)
    (λ s.
    let z : Ok (record { from = 0; to = 0; end = length (body p) }) ≡ Ok w = rw (q, s) at f in
    let n = eqb-false (length (body p)) 0 s in
    record { from = cc; to = cc; end = cc; some = omega (arith, n) }))

-- a short group
pub is-short : (w : Walk) (c : ℕ) (e : BodyError) → past w c ≡ Err e → (w.end - w.from < c) × (e ≡ InvalidFrame w.to)
is-short w c e f =
    by_bool (ltb (w.end - w.from) c)
    (λ q. let z : Err (InvalidFrame w.to) ≡ Err e = rw q at f in (ltb-true (w.end - w.from) c q, cc))
    (λ q. let z : Ok (record { from = w.from + c; to = w.to + (c - 1); end = w.end }) ≡ Err e = rw q at f in absurd cc)

-- a whole one
pub record Past (w : Walk) (c : ℕ) (next : Walk) : Type 0 where
  pub left : c ≤ w.end - w.from
  pub from : next.from ≡ w.from + c
  pub to : next.to ≡ w.to + (c - 1)
  pub end : next.end ≡ w.end

pub is_past : (w : Walk) (c : ℕ) (next : Walk) → past w c ≡ Ok next → Past w c next
is_past w c next f =
    by_bool (ltb (w.end - w.from) c) (λ q. let z : Err (InvalidFrame w.to) ≡ Ok next = rw q at f in absurd cc)
    (λ q.
    let z : Ok (record { from = w.from + c; to = w.to + (c - 1); end = w.end }) ≡ Ok next = rw q at f in
    record { left = ltb-false (w.end - w.from) c q; from = cc; to = cc; end = cc })

-- its code counts itself and the bytes after it
pub spans : (w : Walk) (c : ℕ) (v : Walk) → Past w c v → w.from < w.end → 0 < c → (w.from + 1 + (c - 1) ≡ v.from) × (w.from + 1 + (c - 1) ≤ w.end)
spans w c v p h pos = (omega (arith, p.from), omega (arith, p.left))
