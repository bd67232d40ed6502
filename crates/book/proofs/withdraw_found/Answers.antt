use mathlib.Core.Bool.{true}
use mathlib.Core.Path.{◌≡◌, refl, sym, ap, ◌∙◌}
use Prim.Native.Nat.{ℕ}
use native.Mathlib.Omega.{arith}
use Rattle.figures.specs.Figures.{minus}
use Rattle.net.specs.Net.{within}
use Rattle.book_model.specs.PlainList.{position_of}
use Rattle.book_model.specs.Table.{rows_claimed, running_totals, cleared}
use Rattle.book_model.proofs.Laws.{sound}
use Rattle.book.proofs.Withdrawn.{gone-covered, out_of_range, goes, lowerable, lowered}
use Rattle.book.proofs.withdraw_found.Goals as goal

pub keeps_range_without-requires : goal.keeps_range_without-requires
keeps_range_without-requires c =
    ((sound c.args.book.now c.requires.0).nets c.args.owner c.requires.1, gone-covered c.args.book.now c.args.owner c.args.number c.args.e c.requires.0 c.requires.1 c.requires.2)

pub clear_row-requires : goal.clear_row-requires
clear_row-requires c =
    omega (arith, c.number_at-claimed.ensures, (sound c.args.book.now c.requires.0).claims)

pub lower_head-requires : goal.lower_head-requires
lower_head-requires c =
    let kept : within (position_of (minus (running_totals c.args.owner c.args.book.now) c.args.e.figures)) ≡ true = sym c.keeps_range_without.ensures ∙ c.if-not-keeps_range_without.false in
    let gap : c.clear_row.new.book ≡ cleared c.args.owner c.args.number c.args.book.now (rows_claimed c.args.book.now) 17 = c.clear_row.ensures ∙ ap (λ (n : ℕ). cleared c.args.owner c.args.number c.args.book.now n 17) c.number_at-claimed.ensures in
    lowerable c.args.book.now c.args.owner c.args.number c.args.e c.requires.0 c.requires.1 c.requires.2 c.clear_row.new.book gap kept

pub returns-then-not-keeps_range_without : goal.returns-then-not-keeps_range_without
returns-then-not-keeps_range_without c =
    record { answer = out_of_range c.args.book.now c.args.owner c.args.number c.args.e c.requires.0 c.requires.1 c.requires.2 (sym c.keeps_range_without.ensures ∙ c.if-not-keeps_range_without.true); book = refl }

pub returns : goal.returns
returns c =
    let kept : within (position_of (minus (running_totals c.args.owner c.args.book.now) c.args.e.figures)) ≡ true = sym c.keeps_range_without.ensures ∙ c.if-not-keeps_range_without.false in
    let gap : c.clear_row.new.book ≡ cleared c.args.owner c.args.number c.args.book.now (rows_claimed c.args.book.now) 17 = c.clear_row.ensures ∙ ap (λ (n : ℕ). cleared c.args.owner c.args.number c.args.book.now n 17) c.number_at-claimed.ensures in
    record { answer = goes c.args.book.now c.args.owner c.args.number c.args.e c.requires.0 c.requires.1 c.requires.2 kept; book = lowered c.args.book.now c.args.owner c.args.number c.args.e c.requires.0 c.requires.1 c.requires.2 c.clear_row.new.book gap c.lower_head.new.book c.lower_head.ensures }
