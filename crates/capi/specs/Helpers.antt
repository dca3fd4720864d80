-- What the private helpers promise. No public promise cites it. Assumes nothing.
use Rattle.cobs.specs.Answers.{Told, tell}
use Rattle.capi.specs.declared.told.Telling.{Telling}

-- An answer as the helpers hand it on, told.
abbrev pub telling : Telling → Told
telling t = tell t.number t.first t.second
