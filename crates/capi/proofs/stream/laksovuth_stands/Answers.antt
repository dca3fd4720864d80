-- `capi::stream::laksovuth_stands` meets its contract. Assumes nothing.
use mathlib.Core.Path.{sym, ◌∙◌}
use mathlib.Core.Bool.{true, false}
use lib.ListN.{length}
use Rattle.capi.proofs.Named.{stands-none, stands-some, stands-total}
use Rattle.capi.proofs.stream.laksovuth_stands.Goals.{then-is_ok, else-is_ok}
use Rattle.capi.proofs.stream.laksovuth_stands.Goals as goal

pub returns-in_default : goal.returns-in_default
returns-in_default c =
    let a = c.args in
    let both = stands-none a.state.now (length a.table.now) (sym c.in_default.is ∙ c.read.ensures) in
    record { answer = both.0; total = both.1 }

pub returns : goal.returns
returns c =
    let a = c.args in
    let named = sym c.in-Some.is ∙ c.read.ensures in
    let total = stands-total a.state.now (length a.table.now) c.in-Some.states named _ c.stands-stands.ensures in
    record {
      answer = c.put_one.ensures ∙ stands-some a.state.now (length a.table.now) c.in-Some.states named _ c.stands-stands.ensures;
      total =
          elim c.if-is_ok.branch [
            | then-is_ok w ↦ w.total-is ∙ total true w.if-is_ok.ensures.value
            | else-is_ok w ↦ w.total-is ∙ total false w.if-is_ok.ensures.value
          ];
    }
