use Prim.Native.Nat.{ℕ, ◌+◌, ◌-◌, ◌*◌, ◌≤◌}
use native.Mathlib.Omega.{arith}
use mathlib.Core.List.{List}
use mathlib.Core.Path.{sym, ap, ◌∙◌}
use lib.ListN.{length, set, length-set}
use lib.Seq.{sets}
use Rattle.copying.specs.Times.{times}
use Rattle.book_model.specs.Table.{entries_of, used_from}
use Rattle.book_model.proofs.Laws.{sound}
use Rattle.book_gaps.proofs.Laws.{used_in, closed-length}
use Rattle.book_gaps.proofs.Closing.{tidied-short, tidied-is}
use Rattle.book_gaps.proofs.tidy.Goals as goal

pub returns-then-book-lt17 : goal.returns-then-book-lt17
returns-then-book-lt17 c = tidied-short c.args.book.now c.requires c.if-book-lt17.true

pub rows_used-used-requires : goal.rows_used-used-requires
rows_used-used-requires c = omega (arith, c.number_at-claimed.ensures, (sound c.args.book.now c.requires).claims)

pub close_up-end-requires : goal.close_up-end-requires
close_up-end-requires c = omega (arith, c.number_at-claimed.ensures, (sound c.args.book.now c.requires).claims)

pub overflow_mul-claimed : goal.overflow_mul-claimed
overflow_mul-claimed c = omega (arith, c.number_at-claimed.ensures, (sound c.args.book.now c.requires).claims, c.if-book-lt17.false)

pub overflow_add-claimed : goal.overflow_add-claimed
overflow_add-claimed c = omega (arith, c.number_at-claimed.ensures, (sound c.args.book.now c.requires).claims, c.if-book-lt17.false)

pub overflow_sub-claimed : goal.overflow_sub-claimed
overflow_sub-claimed c = omega (arith, c.close_up-end.ensures.reach, closed-length c.args.book.now c.number_at-claimed.result 17 (omega (arith, c.number_at-claimed.ensures, (sound c.args.book.now c.requires).claims, c.if-book-lt17.false)), c.rows_used-used.ensures.count, c.rows_used-used.ensures.within, c.number_at-claimed.ensures, (sound c.args.book.now c.requires).claims, c.if-book-lt17.false)

pub put_zeros-requires : goal.put_zeros-requires
put_zeros-requires c = omega (arith, c.close_up-end.ensures.reach, closed-length c.args.book.now c.number_at-claimed.result 17 (omega (arith, c.number_at-claimed.ensures, (sound c.args.book.now c.requires).claims, c.if-book-lt17.false)), c.rows_used-used.ensures.count, c.rows_used-used.ensures.within, c.number_at-claimed.ensures, (sound c.args.book.now c.requires).claims, c.if-book-lt17.false, c.close_up-end.auto.book)

pub bounds-book-0 : goal.bounds-book-0
bounds-book-0 c = omega (arith, c.if-book-lt17.false, c.close_up-end.auto.book, c.put_zeros.auto.book)

pub shape_of-book : goal.shape_of-book
shape_of-book c = simp length-set (c.put_zeros.auto.book ∙ c.close_up-end.auto.book)

pub returns : goal.returns
unfolding entries_of
returns c =
    let book = c.args.book.now in
    let end = c.close_up-end.result in
    let many = 17 + 9 * c.number_at-claimed.result - c.close_up-end.result in
    let number = c.number_at-claimed.ensures in
    let used = c.rows_used-used.ensures.count ∙ ap (λ (n : ℕ). used_in book n 17) number in
    let reach = c.close_up-end.ensures.reach ∙ ap (λ (n : ℕ). 17 + length (used_from book n 17)) number in
    let whole : c.close_up-end.result ≤ 17 + 9 * c.number_at-claimed.result = omega (arith, c.close_up-end.ensures.reach, closed-length c.args.book.now c.number_at-claimed.result 17 (omega (arith, c.number_at-claimed.ensures, (sound c.args.book.now c.requires).claims, c.if-book-lt17.false)), c.rows_used-used.ensures.count, c.rows_used-used.ensures.within) in
    ap (λ (l : List ℕ). set l 0 c.rows_used-used.result) (c.put_zeros.ensures ∙ ap (λ (l : List ℕ). sets l end (times many 0)) c.close_up-end.ensures.rows)
    ∙ (λ i. set (sets (sets book 17 (used_from book (number i) 17)) end (times many 0)) 0 (used i))
    ∙ sym (tidied-is book c.requires end many reach (omega (arith, number, whole)) (omega (arith, c.if-book-lt17.false)))
