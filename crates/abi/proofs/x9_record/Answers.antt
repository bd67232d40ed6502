use Rattle.abi.proofs.x9_record.Goals as goal

pub returns : goal.returns
returns c = c.judge_in.ensures
