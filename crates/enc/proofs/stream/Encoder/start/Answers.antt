-- `enc::stream::Encoder::start` meets its contract. Assumes nothing.
use mathlib.Core.Path.{sym, ◌∙◌}
use Rattle.enc.specs.Stream.{started, start_told}
use Rattle.enc.proofs.stream.Encoder.start.Goals as goal

pub returns-then-is_empty : goal.returns-then-is_empty
unfolding started start_told
returns-then-is_empty c = let q = sym c.is_empty.ensures ∙ c.if-is_empty.true in record { state = simp q; answer = simp q }

pub returns : goal.returns
unfolding started start_told
returns c = let q = sym c.is_empty.ensures ∙ c.if-is_empty.false in record { state = simp (q, c.new.ensures); answer = simp q }
