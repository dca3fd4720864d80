-- `cobs::max_encoding_length` meets its contract: what `max_encoding_overhead` answers says which way the number went. Assumes nothing.
use native.Mathlib.Omega.{arith}
use Rattle.std.proofs.lemmas.Result.{err_from_is_err_and}
use Rattle.cobs.proofs.Lengths.{overhead_ok, length-long, length-short}
use Rattle.cobs.proofs.Encoding.{overhead-max}
use Rattle.cobs.proofs.max_encoding_length.Goals as goal

pub returns-in_err-overhead : goal.returns-in_err-overhead
returns-in_err-overhead c =
    let p = err_from_is_err_and c.from_residual.result c.from_residual.ensures.1 in
    rw p.1 (length-long _ c.in_err-overhead.ensures)

pub overflow_add-result : goal.overflow_add-result
overflow_add-result c =
    let k = overhead_ok c.args.n _ c.in_ok-overhead.ensures in
    omega (arith, overhead-max c.args.n)

pub returns : goal.returns
returns c = length-short c.args.n _ c.in_ok-overhead.ensures
