-- `marks::count_below` meets its contract. Assumes nothing.
use mathlib.Core.Path.{◌≡◌, refl, sym, ap, ◌∙◌}
use mathlib.Core.List.{List}
use Prim.Native.Nat.{ℕ, ◌+◌, ◌*◌, ◌/◌}
use native.Mathlib.Omega.{arith}
use lib.ListN.{length}
use Rattle.marks.specs.Marks.{marked_below}
use Rattle.marks.proofs.Below.{below_le, below-past}
use Rattle.marks.proofs.Words.{words_counted, front_counted, words_and_rest}
use Rattle.marks.proofs.count_below.Goals as goal

pub count_words-requires : goal.count_words-requires
count_words-requires c = let ws = c.args.marks.now in omega (arith, words_counted ws, below_le ws (64 * length ws))

pub count_words-requires-2 : goal.count_words-requires-2
count_words-requires-2 c =
    let ws = c.args.marks.now in
    omega (arith, front_counted ws (c.args.n / 64) (omega arith), below_le ws (64 * (c.args.n / 64)))

pub returns-then-n-ge4096 : goal.returns-then-n-ge4096
returns-then-n-ge4096 c =
    let ws = c.args.marks.now in
    let all : 64 * length ws ≡ 4096 = omega arith in
    c.count_words.ensures ∙ words_counted ws ∙ ap (marked_below ws) all ∙ sym (below-past ws c.args.n (omega arith) (omega arith))

module _ (c : goal.After-ones_below) where
  abbrev words : List ℕ
  words = c.args.marks.now

  abbrev end : ℕ
  end = c.args.n

  sum : c.count_words-2.result + c.ones_below.result ≡ marked_below words end
  sum =
      words_and_rest words end c.count_words-2.result _ c.ones_below.result
      (c.count_words-2.ensures ∙ front_counted words (end / 64) (omega arith)) refl c.ones_below.ensures

pub overflow_add-result : goal.overflow_add-result
overflow_add-result c = omega (arith, sum c, below_le (words c) (end c))

pub returns : goal.returns
returns c = sum c
