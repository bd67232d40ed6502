-- Five of the promises of a salvage, for every file, buffer and list; the other three are given. Assumes nothing.
use mathlib.Core.Logic.{◌↔◌}
use mathlib.Core.List.{List, [], map}
use mathlib.Core.Option.{none}
use mathlib.Core.Path.{◌≡◌}
use mathlib.Core.Bool.{true}
use Prim.Native.Nat.{ℕ}
use lib.ListN.{length}
use Rattle.text.specs.CharacterSet.{set_of}
use Rattle.text.specs.declared.character_set.CharacterSet.{CharacterSet}
use Rattle.ascii_copy.specs.AsciiCopy.{ascii_copy}
use Rattle.file_as_records.specs.Framed.{Body}
use Rattle.arrangement.specs.Tree.{Content}
use Rattle.arrangement.specs.Written.{content_then}
use Rattle.arrangement.specs.Sound.{SoundContent}
use Rattle.salvage_model.specs.Walked.{walked}
use Rattle.salvage_model.specs.Runs.{sound_alone, run_fault}
use Rattle.salvage_model.specs.Kept.{Marked, marks_of}
use Rattle.salvage_model.specs.Salvaged.{salvage_outcome, salvage_buffer}
use Rattle.salvage_model.specs.Promises.{is_run, SameSalvage, Promised}
use Rattle.salvage_written.proofs.Accepted.{salvage-accepted}
use Rattle.salvage_written.proofs.Refusals.{refusals, as-they-stand}
use Rattle.salvage_same.proofs.Lost.{nothing-lost}
use Rattle.salvage_same.proofs.Again.{salvaged-again}

module _ (file out list : List ℕ) (each-once : map (λ (m : Marked). m.body) (marks_of (set_of file) (walked file)) ≡ walked file)
    (copy : SameSalvage file (ascii_copy file) out list)
    (sound-runs : (set : CharacterSet) (header : Body) (bs : List Body) → sound_alone set 10 header ≡ true → is_run set bs ≡ true
    → (run_fault set header bs ≡ none) ↔ ((c : Content) × (content_then c [] ≡ bs) × SoundContent set header c)) where
  pub promised : Promised file out list (salvage_outcome file (length out) (length list)) (salvage_buffer file out (length list))
  promised =
      record {
        accepted = salvage-accepted file out (length list);
        refusals = refusals file (length out) (length list);
        nothing-lost = nothing-lost file out list;
        each-once = each-once;
        as-they-stand = as-they-stand file out (length list);
        copy = copy;
        again = salvaged-again file out (length list);
        sound-runs = sound-runs;
      }
