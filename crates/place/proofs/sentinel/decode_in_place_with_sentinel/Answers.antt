-- `place::sentinel::decode_in_place_with_sentinel` meets its contract. Assumes nothing.
use mathlib.Core.Path.{ap, ◌∙◌}
use mathlib.Core.List.{List}
use Prim.Native.Nat.{ℕ}
use Rattle.cobs.specs.OneShot.{in_place_told, in_place_dest, size_alone}
use Rattle.place.proofs.Measured.{masked-whole}
use Rattle.place.proofs.sentinel.decode_in_place_with_sentinel.Goals as goal

pub returns : goal.returns
returns c =
    let d = c.decode_in_place in
    let e = c.mask.ensures ∙ masked-whole c.args.sentinel c.args.buf.now in
    record { answer = d.ensures.answer ∙ ap (λ (s : List ℕ). size_alone (in_place_told s)) e; memory = d.ensures.memory ∙ ap in_place_dest e }
