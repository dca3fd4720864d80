-- `probe::probe_encoder_finalize` meets its contract. Assumes nothing.
use Rattle.probe.proofs.probe_encoder_finalize.Goals as goal

pub returns : goal.returns
returns c = record { answer = cc; memory = cc }
