use Rattle.salvage_next.proofs.kept_entry.Goals as goal

pub returns : goal.returns
returns c = λ bs s. rw (c.addenda_among-addenda.ensures bs s)
