-- `probe::probe_decode_in_place_with_sentinel` meets its contract. Assumes nothing.
use mathlib.Core.Path.{◌∙◌}
use Rattle.probe.proofs.probe_decode_in_place_with_sentinel.Goals as goal

pub returns : goal.returns
returns c = record { answer = c.placed.ensures ∙ c.decode_in_place_with_sentinel.ensures.answer; memory = c.decode_in_place_with_sentinel.ensures.memory }
