use mathlib.Core.List.{List, ◌++◌}
use mathlib.Core.Path.{◌≡◌, sym, ap, ◌∙◌}
use Prim.Native.Nat.{ℕ}
use lib.ListN.{drop}
use lib.Seq.{sets-eq}
use Rattle.file_as_records.specs.Framed.{length_field}
use Rattle.set_out.proofs.put_length.Goals as goal

pub returns : goal.returns
returns c =
    let bytes : c.copy_from_slice.new.self ≡ length_field c.args.size = c.copy_from_slice.ensures.after ∙ rw c.to_be_bytes.ensures in
    ap (λ (b : List ℕ). b ++ drop 4 c.args.out.now) bytes ∙ sym (sets-eq (length_field c.args.size) c.args.out.now 0 c.requires)
