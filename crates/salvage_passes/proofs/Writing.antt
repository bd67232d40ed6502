-- The records of the new file written one by one: those that are left come to the same behind the longer file. Assumes nothing.
use Prim.Native.Nat.{ℕ, ◌+◌, ◌-◌, ◌≤◌, ◌<◌}
use native.Mathlib.Omega.{arith}
use mathlib.Core.Bool.{true}
use mathlib.Core.List.{List, [], ◌∷◌, ◌++◌}
use mathlib.Core.Path.{◌≡◌, sym, ◌∙◌, subst}
use lib.ListN.{length, take, drop}
use Rattle.text.specs.declared.character_set.CharacterSet.{CharacterSet}
use Rattle.text.specs.declared.character_set.CharacterSet.TheVariants.{Ascii}
use Rattle.standing.specs.Standing.{standing, capped_figures}
use Rattle.standing.specs.declared.Standing.{Standing}
use Rattle.draft.specs.Values.{Values}
use Rattle.draft.specs.Drafted.{made}
use Rattle.sheet.proofs.Laws.{sheet-starts}
use Rattle.set_out.specs.SetOut.{Fits, Ready, Onward}
use Rattle.set_out.proofs.Rows.{same-ready, onward-none, onward-all, bytes-within, rest-ready, rest-on}
use Rattle.salvage_next.specs.declared.Cue.{Cue}
use Rattle.salvage_next.specs.declared.Entry.{Entry}
use Rattle.salvage_next.specs.Cued.{Cued, turns, NextEntry}
use Rattle.salvage_passes.specs.Says.{NextWritten}
use Rattle.salvage_passes.specs.Writable.{Writable}
use Rattle.salvage_passes.proofs.Few.{values-few}
use Rattle.salvage_passes.proofs.Deciding.{found-says}

-- with some of the records written
pub record Writing (set : CharacterSet) (file : List ℕ) (end : ℕ) (all : List Values) (out₀ out sheet : List ℕ) (s : Standing) (bytes : ℕ) (at : Cue) : Type 0 where
  pub left : List Values
  pub cued : Cued set file end at left
  pub few : length all ≤ 0x2000_0000_0000_0000
  pub fits : Fits all [] [] (length out₀)
  pub onward : Onward all [] [] out₀ left sheet s bytes out

pub writing-first : {set : CharacterSet} {file : List ℕ} {end : ℕ} {cue : Cue} (out : List ℕ) (w : Writable set file end cue (length out)) {sheet : List ℕ}
    → length sheet ≡ 800 → {s : Standing} → s ≡ capped_figures (standing Ascii [] []) → Writing set file end w.values out out sheet s 0 cue
writing-first out w {sheet} long {s} e =
    record { left = w.values; cued = w.cued; few = values-few w.cued; fits = w.fits; onward = onward-none out (sheet-starts sheet long s e) }

-- the rest of a buffer, as the code takes it
abbrev pub rest_of : List ℕ → ℕ → List ℕ
rest_of out bytes = take (length out - bytes) (drop bytes out)

module _ {set : CharacterSet} {file : List ℕ} {end : ℕ} {all : List Values} {out₀ out sheet : List ℕ} {s : Standing} {bytes : ℕ} {at : Cue}
    (u : Writing set file end all out₀ out sheet s bytes at) where
  pub writing-room : bytes ≤ length out
  writing-room = bytes-within u.onward

  pub writing-all : at.done ≡ true → out ≡ made all ++ drop (length (made all)) out₀
  writing-all done = onward-all all out₀ u.onward (u.cued.values ∙ rw done)

  module _ {entry : Entry} (found : (vs : List Values) → Cued set file end at vs → NextEntry set file end at vs entry) where
    abbrev n : NextEntry set file end at u.left entry
    n = found u.left u.cued

    abbrev next_of : Ready u.left sheet s (length (rest_of out bytes)) → NextWritten set file entry sheet s (length (rest_of out bytes))
    next_of b =
        record { value = n.value; says = found-says n; ready = record { others = n.others; behind = n.addenda; ready = same-ready n.is b } }

    pub next-written : NextWritten set file entry sheet s (length (rest_of out bytes))
    next-written = next_of (rest-ready out u.onward (omega (arith, u.few)) u.fits)

    pub next-less : turns end entry.next < turns end at
    next-less = n.fewer

    pub writing-on : {s' : Standing} {bytes' : ℕ} {sheet' rest : List ℕ}
        → ((w : NextWritten set file entry sheet s (length (rest_of out bytes)))
        → Onward (w.value ∷ w.ready.others) w.ready.ready.file w.ready.ready.past (rest_of out bytes) w.ready.others sheet' s' bytes' rest)
        → Writing set file end all out₀ (take bytes out ++ (rest ++ drop (length out - bytes) (drop bytes out))) sheet' s' (bytes + bytes') entry.next
    writing-on {s'} {bytes'} {sheet'} {rest} done =
        record {
          left = n.others;
          cued = n.next;
          few = u.few;
          fits = u.fits;
          onward =
              rest-on out u.onward (omega (arith, u.few)) u.fits
              (λ b. subst (λ (us : List Values). Onward us b.file b.past (rest_of out bytes) n.others sheet' s' bytes' rest) (sym n.is) (done (next_of b)));
        }
