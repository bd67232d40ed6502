use Rattle.salvage_marks.proofs.Marks.{letter-run, next-letter}
use Rattle.salvage_marks.proofs.Torn.letter_begun.Goals as goal

pub is_letter_kept-kept-requires : goal.is_letter_kept-kept-requires
is_letter_kept-kept-requires c = letter-run c.args.self.set c.args.self.file.now c.args.self.end c.args.plan c.args.seen c.requires.5 c.requires.0 c.requires.1 c.requires.2 c.requires.4.marks c.requires.4.left c.requires.3 _ c.end_of-stop.ensures _ c.part_of-body.ensures _ c.is_sound_alone-sound.ensures

pub returns : goal.returns
returns c = λ ms v. next-letter c.args.self.set c.args.self.file.now c.args.self.end c.args.plan c.args.seen c.requires.5 c.requires.0 c.requires.1 c.requires.2 ms v c.requires.3 _ c.end_of-stop.ensures _ c.part_of-body.ensures _ c.is_sound_alone-sound.ensures _ c.is_letter_kept-kept.ensures.0 c.is_letter_kept-kept.ensures.1 c.kept_if.result c.kept_if.ensures
