use Rattle.salvage_rows.proofs.Kept.{kept_put}
use Rattle.salvage_rows.proofs.put_kept.Goals as goal

pub returns : goal.returns
returns c = kept_put c.args.set c.args.body.now c.args.row.now _ c.told-row c.put_row.ensures
