use mathlib.Core.Path.{◌≡◌, sym, ◌∙◌, ap}
use native.Mathlib.Omega.{arith}
use Prim.Native.Nat.{ℕ}
use Rattle.frame.specs.Frames.{length_in, length_at}
use Rattle.frame.proofs.Laws.{rest-whole, cut-length, cut-body, whole}
use Rattle.frame.proofs.Cursor.frame.Goals as goal

pub returns-then-file-lt4 : goal.returns-then-file-lt4
returns-then-file-lt4 c = sym (cut-length c.args.file.now c.args.self.offset (omega arith))

pub returns-then-file-offset : goal.returns-then-file-offset
returns-then-file-offset c = sym (cut-length c.args.file.now c.args.self.offset (omega arith))

pub returns-then-file-start : goal.returns-then-file-start
returns-then-file-start c = let e : ◌≡◌ {A = ℕ} c.length_in-length.result (length_at c.args.file.now c.args.self.offset) = (c.length_in-length.ensures.0 ∙ ap length_in (rest-whole c.args.file.now c.args.self.offset)) in sym (cut-body c.args.file.now c.args.self.offset (omega arith) (omega arith))

pub returns : goal.returns
returns c = let e : ◌≡◌ {A = ℕ} c.length_in-length.result (length_at c.args.file.now c.args.self.offset) = (c.length_in-length.ensures.0 ∙ ap length_in (rest-whole c.args.file.now c.args.self.offset)) in rw e (sym (whole c.args.file.now c.args.self.offset (omega arith)))
