-- The records of the new file judged one by one: the answer to those that are left is the answer to all. Assumes nothing.
use Prim.Native.Nat.{ℕ, ◌+◌, ◌≤◌, ◌<◌}
use native.Mathlib.Omega.{arith}
use mathlib.Core.Bool.{true}
use mathlib.Core.List.{List, [], ◌∷◌}
use mathlib.Core.Path.{◌≡◌, refl, sym, ap, ◌∙◌}
use lib.ListN.{length}
use Rattle.text.specs.declared.character_set.CharacterSet.{CharacterSet}
use Rattle.text.specs.declared.character_set.CharacterSet.TheVariants.{Ascii}
use Rattle.standing.specs.Standing.{standing, capped_figures, Roomy}
use Rattle.standing.specs.declared.Standing.{Standing}
use Rattle.std.specs.Prelude.{Err}
use Rattle.passes.specs.declared.Refusal.{Refusal}
use Rattle.draft.specs.Outcomes.{Outcome}
use Rattle.draft.specs.Values.{Values}
use Rattle.draft.specs.Drafted.{file_with, past_with, rows_ended, answer_from}
use Rattle.sheet.proofs.Laws.{sheet-starts}
use Rattle.draft_survey.specs.CappedOutcome.{capped_outcome}
use Rattle.draft_survey.proofs.Laws.{sheet-roomy}
use Rattle.salvage_next.specs.declared.Cue.{Cue}
use Rattle.salvage_next.specs.declared.Entry.{Entry}
use Rattle.salvage_next.specs.Cued.{Cued, turns, NextEntry}
use Rattle.salvage_entry.specs.declared.Pen.{Pen}
use Rattle.salvage_entry.specs.Entered.{Entered, On, Begun, OneMore, EnteredAs}
use Rattle.salvage_passes.specs.Says.{Says, NextEntered}
use Rattle.salvage_passes.proofs.Few.{turns-few}

-- what an entry says where it is found
pub found-says : {set : CharacterSet} {file : List ℕ} {end : ℕ} {c : Cue} {vs : List Values} {e : Entry} (n : NextEntry set file end c vs e) → Says set file e n.value
found-says n = record { kept = λ is. rw n.stands (n.kept is); control = λ is. rw n.stands (n.control is) }

-- with some of the records entered: those that are left give the answer from here
pub record Sofar (set : CharacterSet) (file : List ℕ) (end : ℕ) (all : List Values) (sheet : List ℕ) (pen : Pen) (at : Cue) : Type 0 where
  pub left : List Values
  pub cued : Cued set file end at left
  pub begun : Begun sheet pen
  pub few : length begun.past + turns end at ≤ 0x2000_0000_0000_0000
  pub same : answer_from all [] [] ≡ answer_from left begun.file begun.past

pub sofar-first : {set : CharacterSet} {file : List ℕ} {end : ℕ} {cue : Cue} {all : List Values} → Cued set file end cue all → {sheet : List ℕ} → length sheet ≡ 800
    → {s : Standing} → s ≡ capped_figures (standing Ascii [] []) → Sofar set file end all sheet (record { standing = s; bytes = 0 }) cue
sofar-first {all = all} cued {sheet} long {s} e = record {
  left = all;
  cued = cued;
  begun = record { file = []; past = []; stands = sheet-starts sheet long s e; size = refl; few = omega arith };
  few = omega (arith, turns-few cued);
  same = refl;
}

module _ {set : CharacterSet} {file : List ℕ} {end : ℕ} {all : List Values} {sheet : List ℕ} {pen : Pen} {at : Cue} (u : Sofar set file end all sheet pen at) where
  pub sofar-roomy : Roomy pen.standing
  sofar-roomy = (sheet-roomy u.begun.stands u.begun.few).0

  pub sofar-end : at.done ≡ true
      → capped_outcome (answer_from all [] []) ≡ capped_outcome (rows_ended u.begun.file u.begun.past (standing Ascii u.begun.file u.begun.past))
  unfolding answer_from
  sofar-end done =
      let none : u.left ≡ [] = u.cued.values ∙ rw done in
      ap capped_outcome u.same ∙ rw none

  module _ {entry : Entry} (found : (vs : List Values) → Cued set file end at vs → NextEntry set file end at vs entry) where
    abbrev n : NextEntry set file end at u.left entry
    n = found u.left u.cued

    pub next-entered : NextEntered set file entry sheet pen
    next-entered = record {
      value = n.value;
      says = found-says n;
      entering = record { begun = u.begun; others = n.others; behind = n.addenda };
    }

    pub next-fewer : turns end entry.next < turns end at
    next-fewer = n.fewer

    here : answer_from all [] [] ≡ answer_from (n.value ∷ n.others) u.begun.file u.begun.past
    here = u.same ∙ ap (λ (vs : List Values). answer_from vs u.begun.file u.begun.past) n.is

    module _ (r : Entered) (after : List ℕ)
        (done : (e : NextEntered set file entry sheet pen) → EnteredAs e.value e.entering.others e.entering.begun.file e.entering.begun.past r after) where
      entered : EnteredAs n.value n.others u.begun.file u.begun.past r after
      unfolding next-entered
      entered = done next-entered

      pub sofar-stop : {e : Refusal} → r ≡ Err e → (o : Outcome) → o ≡ Err e → o ≡ capped_outcome (answer_from all [] [])
      sofar-stop q o e = e ∙ sym (ap capped_outcome (here ∙ rw q at entered))

      pub sofar-on : {pen' : Pen} → r ≡ On pen' → Sofar set file end all after pen' entry.next
      sofar-on {pen'} q =
          let more : OneMore n.value n.others u.begun.file u.begun.past pen' after = rw q at entered in
          record {
            left = n.others;
            cued = n.next;
            begun = record {
              file = file_with n.value n.others u.begun.file u.begun.past;
              past = past_with n.value n.others u.begun.file u.begun.past;
              stands = more.stands;
              size = more.size;
              few = omega (arith, u.few, n.fewer);
            };
            few = omega (arith, u.few, n.fewer);
            same = here ∙ more.answer;
          }
