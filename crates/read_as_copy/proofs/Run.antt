-- A file and its ASCII copy are read in step: at each record both have the same turn, and a good record joins those before it as alike in
-- both. Assumes nothing.
use Prim.Native.Nat.{ℕ, zero, suc, ◌+◌, ◌-◌, ◌≤◌, ◌<◌}
use native.Mathlib.Omega.{arith}
use mathlib.Core.Bool.{Bool, true, false, ◌&&◌, cond}
use mathlib.Core.Path.{◌≡◌, refl, sym, ap, ap₂, ◌∙◌}
use mathlib.Core.List.{List, [], ◌∷◌, ◌++◌}
use lib.Dec.{leb, eqb}
use lib.ListN.{length, take, drop, length-take}
use lib.Seq.{take-take}
use borrow.Author.Tests.{leb-true, leb-false}
use Rattle.std.specs.Prelude.{Some}
use Rattle.text.specs.declared.character_set.CharacterSet.TheVariants.{Ascii, Ebcdic}
use Rattle.frame.specs.Frames.{Frame}
use Rattle.frame.specs.Frames.{Cut, Whole}
use Rattle.frame.specs.Frames.{part, frame_at}
use Rattle.frame.proofs.Laws.{whole-start}
use Rattle.layout.specs.Layout.{Layout}
use Rattle.layout.specs.Layouts.{layouts}
use Rattle.judge.specs.Alone.{Sound}
use Rattle.judge.specs.Alone.{type_of, judged_as}
use Rattle.judge.proofs.Laws.{both_true}
use Rattle.order.specs.MayFollow.{may_follow}
use Rattle.order.proofs.Laws.{first-type}
use Rattle.standing.specs.History.{Entry, entry}
use Rattle.standing.specs.Standing.{standing}
use Rattle.standing.specs.declared.Standing.{Standing}
use Rattle.ascii_copy.specs.AsciiCopy.{translated}
use Rattle.passes.specs.declared.Fault.TheVariants.{After}
use Rattle.passes.specs.Answers.{Step}
use Rattle.passes.specs.Answers.{Stop, On}
use Rattle.passes.specs.declared.Totals.{Totals}
use Rattle.passes.specs.Answers.{Accepted}
use Rattle.passes.specs.CheckOrder.{turn_of}
use Rattle.passes.specs.Rows.{row_of, rows_from}
use Rattle.passes.specs.Reading.{of_turn, of_frame, step_of, after_step, ended_with, ended, run}
use Rattle.passes.proofs.Passed.{passed, turns-alike}
use Rattle.passes.proofs.Laws.{run-stop, run_on, rows_on, framed}
use Rattle.ascii_copy.proofs.Records.{length-copied, front-copied, type-copied, judged-copied}
use Rattle.ascii_copy.proofs.SoundCharacters.{width_in, width_of, sound-characters, sound-long}
use Rattle.ascii_copy.proofs.Frames.{Ahead, ahead-frame, ahead-body, ahead-next}
use Rattle.read_as_copy.proofs.Alike.{AlikeAt, AlikePast, standing-alike, row-alike, agreement-alike}

-- no fixed part is longer than that of a 52
abbrev narrow : List Layout → Bool
narrow [] = true
narrow (k ∷ ks) = leb k.fixed_length 139 && narrow ks

width-in : (ks : List Layout) (t : ℕ) → narrow ks ≡ true → width_in ks t ≤ 139
width-in [] t e = omega arith
width-in (k ∷ ks) t e =
    let tests = both_true (leb k.fixed_length 139) (narrow ks) e in
    pick (eqb t k.type_number) (leb-true k.fixed_length 139 tests.0) (width-in ks t tests.1)
  where
    pick : (c : Bool) {m n : ℕ} → m ≤ 139 → n ≤ 139 → cond c m n ≤ 139
    pick true h l = h
    pick false h l = l

pub width_small : (t : ℕ) → width_of t ≤ 139
width_small t = width-in layouts t refl

-- a type may come next, where s stands before it
abbrev may_come : Standing → ℕ → Bool
may_come s t = may_follow s.inside s.last s.present t

-- what stands where the reading of both has come: at the start no record is behind, and elsewhere the file header is
abbrev pub Opening : List ℕ → List ℕ → ℕ → List Entry → Type 0
Opening file copy at [] = at ≡ 0
Opening file copy at (r ∷ rs) = AlikeAt file copy 0 80

pub record Reached (file copy : List ℕ) (at : ℕ) (past : List Entry) : Type 0 where
  pub ahead : Ahead file copy at
  pub alike : AlikePast file copy past
  pub opening : Opening file copy at past

module _ (file copy : List ℕ) (at : ℕ) (past : List Entry) (r : Reached file copy at past) where
  opening_on : (t : ℕ) → may_come (standing Ebcdic file past) t ≡ true → AlikeAt file copy at (width_of t) → AlikeAt file copy 0 80
  unfolding standing
  opening_on t follows here = cases past r.opening follows
    where
      cases : (p : List Entry) → Opening file copy at p → may_come (standing Ebcdic file p) t ≡ true → AlikeAt file copy 0 80
      cases [] q follows = rw (q, first-type t follows) at here
      cases (e ∷ es) q follows = q

  module _ (start size : ℕ) (whole : frame_at file at ≡ Whole start size) where
    front : (w : ℕ) → w ≤ size → (xs : List ℕ) → take w (drop (at + 4) xs) ≡ take w (part start size xs)
    front w h xs = rw (← (whole-start file at start size whole)) (sym (take-take w size (drop start xs) h))

    -- a sound record is alike in both
    here : (t : ℕ) → judged_as Ebcdic t (part start size file) ≡ Sound → AlikeAt file copy at (width_of t)
    here t sound =
        let fits : width_of t ≤ size = omega (arith, sound-long Ebcdic t (part start size file) sound, length-take size (drop start file)) in
        record {
          same = record {
            same =
                front (width_of t) fits copy
                ∙ ap (take (width_of t)) (ahead-body file copy at start size r.ahead whole)
                ∙ front-copied (width_of t) (part start size file) (width_small t)
                ∙ ap translated (sym (front (width_of t) fits file));
            characters = rw (front (width_of t) fits file) (sound-characters t (part start size file) sound);
          };
        }

    turn-alike : turn_of Ascii copy (standing Ebcdic file past) at (part start size copy) ≡ turn_of Ebcdic file (standing Ebcdic file past) at (part start size file)
    turn-alike =
        let body = part start size file in
        let type = type_of Ebcdic body in
        let copied = ahead-body file copy at start size r.ahead whole in
        turns-alike Ebcdic Ascii file copy (standing Ebcdic file past) at body (part start size copy) (ap length copied ∙ length-copied body)
        (ap (type_of Ascii) copied ∙ type-copied body) (ap (judged_as Ascii type) copied ∙ judged-copied body)
        (λ follows sound. agreement-alike file copy past at type r.alike (here type sound) (λ q. opening_on type follows (here type sound)))

  step-alike : step_of Ascii copy (standing Ascii copy past) at ≡ step_of Ebcdic file (standing Ebcdic file past) at
  unfolding step_of
  step-alike =
      rw (standing-alike file copy past r.alike, ahead-frame file copy at r.ahead)
      (ap (cond (eqb (standing Ebcdic file past).last 99) (Stop After)) (cases (frame_at file at) refl))
    where
      cases : (f : Frame) → frame_at file at ≡ f → of_frame Ascii copy (standing Ebcdic file past) at f ≡ of_frame Ebcdic file (standing Ebcdic file past) at f
      cases Cut e = refl
      cases (Some x) e = ap (of_turn x.size) (turn-alike x.start x.size e)

  module _ (t size : ℕ) (step : step_of Ebcdic file (standing Ebcdic file past) at ≡ On t size) where
    -- behind a good record both readings are in step again
    reached-on : Reached file copy (at + 4 + size) (entry t at size ∷ past)
    reached-on =
        let f = framed Ebcdic file (standing Ebcdic file past) at t size step in
        let p = passed Ebcdic f.turn in
        let alike : AlikeAt file copy at (width_of t) = here f.start size f.whole t (rw f.type at p.alone) in
        record {
          ahead = rw (whole-start file at f.start size f.whole) at (ahead-next file copy at f.start size r.ahead f.whole);
          alike = (alike, r.alike);
          opening = opening_on t (rw f.type at p.follows) alike;
        }

    -- and the rows of both go on alike
    rows-alike-on : (n : ℕ) → at < length file
        → rows_from Ascii n copy (at + 4 + size) (entry t at size ∷ past) ≡ rows_from Ebcdic n file (at + 4 + size) (entry t at size ∷ past)
        → rows_from Ascii (suc n) copy at past ≡ rows_from Ebcdic (suc n) file at past
    rows-alike-on n h others =
        let f = framed Ebcdic file (standing Ebcdic file past) at t size step in
        let begins = whole-start file at f.start size f.whole in
        let newer = entry t at size ∷ past in
        let type : type_of Ascii (part f.start size copy) ≡ t =
        ap (type_of Ascii) (ahead-body file copy at f.start size r.ahead f.whole) ∙ type-copied (part f.start size file) ∙ f.type in
        let one_less : suc n - 1 ≡ n = omega arith in
        rows_on Ascii copy at past (suc n) f.start size t (omega (arith, r.ahead.long)) (omega arith) (ahead-frame file copy at r.ahead ∙ f.whole) type
        ∙ ap₂ ◌++◌
        (ap (λ (s : Standing). row_of Ascii copy s t at size) (standing-alike file copy newer reached-on.alike)
        ∙ row-alike t reached-on.alike.0 (standing Ebcdic file newer) size)
        (rw (begins, one_less) others)
        ∙ sym (rows_on Ebcdic file at past (suc n) f.start size t h (omega arith) f.whole f.type)

module _ (file copy : List ℕ) where
  pub run-alike : (n at : ℕ) (past : List Entry) → Reached file copy at past → run Ascii n copy at past ≡ run Ebcdic n file at past
  unfolding run
  run-alike zero at past r = ap (λ (s : Standing). ended_with s at) (standing-alike file copy past r.alike)
  run-alike (suc n) at past r =
      rw (r.ahead.long, step-alike file copy at past r, standing-alike file copy past r.alike)
      (ap (cond (leb (length file) at) (ended Ebcdic file past at))
      (cases (step_of Ebcdic file (standing Ebcdic file past) at) refl (λ next newer o. run-alike n next newer o)))
    where
      cases : (step : Step) → step_of Ebcdic file (standing Ebcdic file past) at ≡ step
          → ((next : ℕ) (newer : List Entry) → Reached file copy next newer → run Ascii n copy next newer ≡ run Ebcdic n file next newer)
          → after_step at past step (λ next newer. run Ascii n copy next newer) ≡ after_step at past step (λ next newer. run Ebcdic n file next newer)
      cases (Stop fault) e others = refl
      cases (On t size) e others = others (at + 4 + size) (entry t at size ∷ past) (reached-on file copy at past r t size e)

  pub rows_alike : (n at : ℕ) (past : List Entry) → Reached file copy at past → {t : Totals} → run Ebcdic n file at past ≡ Accepted t
      → rows_from Ascii n copy at past ≡ rows_from Ebcdic n file at past
  unfolding rows_from
  rows_alike zero at past r e = refl
  rows_alike (suc n) at past r {t} e =
      cases (leb (length file) at) refl (step_of Ebcdic file (standing Ebcdic file past) at) refl (λ next newer o accepted. rows_alike n next newer o {t = t} accepted)
    where
      cases : (c : Bool) → leb (length file) at ≡ c → (step : Step) → step_of Ebcdic file (standing Ebcdic file past) at ≡ step
          → ((next : ℕ) (newer : List Entry) → Reached file copy next newer → run Ebcdic n file next newer ≡ Accepted t
          → rows_from Ascii n copy next newer ≡ rows_from Ebcdic n file next newer)
          → rows_from Ascii (suc n) copy at past ≡ rows_from Ebcdic (suc n) file at past
      cases true c step q others = rw (r.ahead.long, c)
      cases false c (Stop fault) q others =
          let stopped = run-stop Ebcdic file at past (suc n) fault (leb-false _ _ c) (omega arith) q in
          let z : ◌≡◌ {A = ℕ} 0 1 = cc in absurd (omega arith)
      cases false c (On u size) q others =
          let one_less : suc n - 1 ≡ n = omega arith in
          let below : at < length file = leb-false _ _ c in
          rows-alike-on file copy at past r u size q n below
          (others (at + 4 + size) (entry u at size ∷ past) (reached-on file copy at past r u size q)
          (rw one_less at (sym (run_on Ebcdic file at past (suc n) u size below (omega arith) q) ∙ e)))
