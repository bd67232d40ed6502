-- What was walked of a file: nothing stands behind its 99, and the marking begins at its first record. Assumes nothing.
use Prim.Native.Nat.{ℕ, zero, suc, ◌+◌, ◌/◌, ◌≤◌}
use native.Mathlib.Omega.{arith}
use mathlib.Core.Bool.{Bool, true, false, ◌&&◌, cond}
use mathlib.Core.List.{List, [], ◌∷◌}
use mathlib.Core.Path.{◌≡◌, refl, sym, ap, ap₂, ◌∙◌, subst}
use lib.Dec.{leb, eqb}
use lib.ListN.{length, length-map}
use borrow.Author.Tests.{leb-true, eqb-true, eq-eqb}
use Rattle.std.specs.Prelude.{Some}
use Rattle.text.specs.CharacterSet.{set_of}
use Rattle.text.specs.declared.character_set.CharacterSet.{CharacterSet}
use Rattle.frame.specs.Frames.{Frame}
use Rattle.frame.specs.Frames.{Cut}
use Rattle.frame.specs.Frames.{part, frame_at}
use Rattle.judge.specs.Alone.{type_of, judged_record}
use Rattle.file_as_records.specs.Framed.{Body}
use Rattle.draft.specs.Values.{Values, values_of_body}
use Rattle.salvage_model.specs.Walked.{walked_on, walked_from, walked}
use Rattle.salvage_model.specs.Runs.{is_right, sound_alone}
use Rattle.salvage_model.specs.Kept.{Marked, sections_of, sections_marks, marks_of, salvaged_values, any_kept, is_anything}
use Rattle.salvage_model.specs.Salvaged.{values_left}
use Rattle.salvage_walk.specs.declared.Seen.{Seen}
use Rattle.salvage_walk.specs.Spans.{Stands, Spans, SeenAs}
use Rattle.salvage_walk.proofs.Sorts.{First, first_of, none_left}
use Rattle.salvage_marks.specs.declared.Plan.{Plan}
use Rattle.salvage_marks.specs.Left.{Left, Planned}
use Rattle.salvage_made.specs.ByMarks.{by_marks, bodies_in, addenda_among, CountedAlike, any_marked, OnlyLast}
use Rattle.salvage_made.proofs.Bodies.{each-once}
use Rattle.salvage_made.proofs.Sections.{well}
use Rattle.salvage_made.proofs.Theorem.{by-marks, any-marked}
use Rattle.salvage_made.proofs.Addenda.{behind-none, counted-alike}
use Rattle.salvage_next.specs.Cued.{Cued}
use Rattle.salvage_list.specs.Listable.{Listable}
use Rattle.salvage.specs.Steps.{WalkedTo}

-- nothing is walked behind a 99
only-last : (set : CharacterSet) (n : ℕ) (file : List ℕ) (at : ℕ) → OnlyLast set (walked_from set n file at)
unfolding walked_from
only-last set zero file at = tt
only-last set (suc n) file at = by (frame_at file at) (λ next. only-last set n file next)
  where
    behind : (b : Body) (others : List Body) → OnlyLast set others → (c : Bool) → eqb (type_of set b) 99 ≡ c
        → OnlyLast set (b ∷ cond c [] others)
    behind b others h true e = ((λ q. refl), tt)
    behind b others h false e = (
      (λ q. let z : false ≡ true = sym e ∙ eq-eqb (type_of set b) 99 q in let n : ◌≡◌ {A = ℕ} 0 1 = cc in absurd (omega arith)),
      h,
    )

    long : (start size : ℕ) → ((next : ℕ) → OnlyLast set (walked_from set n file next)) → (c : Bool)
        → OnlyLast set
        (cond c (part start size file ∷ cond (eqb (type_of set (part start size file)) 99) [] (walked_from set n file (start + size))) [])
    long start size others true =
        behind (part start size file) (walked_from set n file (start + size)) (others (start + size)) (eqb (type_of set (part start size file)) 99) refl
    long start size others false = tt

    by : (f : Frame) → ((next : ℕ) → OnlyLast set (walked_from set n file next)) → OnlyLast set (walked_on set file f (λ next. walked_from set n file next))
    by Cut others = tt
    by (Some x) others = long x.start x.size others (leb 2 x.size)

walked-last : (set : CharacterSet) (file : List ℕ) → set ≡ set_of file → OnlyLast set (walked file)
unfolding walked
walked-last set file e = subst (λ (s : CharacterSet). OnlyLast set (walked_from s (length file) file 0)) e (only-last set (length file) file 0)

-- how far the walk leads, by the set of the file
walked_by : {set : CharacterSet} (file : List ℕ) → set ≡ set_of file → walked_from set (length file) file 0 ≡ walked file
unfolding walked
walked_by file e = ap (λ (s : CharacterSet). walked_from s (length file) file 0) e

both_hold : (a b : Bool) → a && b ≡ true → (a ≡ true) × (b ≡ true)
both_hold true b e = (refl, e)
both_hold false b e = (e, let z : ◌≡◌ {A = ℕ} 0 1 = cc in absurd (omega arith))

pub walked_to : {set : CharacterSet} {file : List ℕ} {end : ℕ} → set ≡ set_of file → leb 1 (length file) && leb (length file) 268_435_456 ≡ true
    → Spans file 0 (walked_from set (length file) file 0) end → end ≤ length file → WalkedTo set file end
walked_to {set} {file} {end} e size s h =
    let sizes = both_hold (leb 1 (length file)) (leb (length file) 268_435_456) size in
    record {
      is = e;
      some = leb-true 1 (length file) sizes.0;
      limit = leb-true (length file) 268_435_456 sizes.1;
      within = h;
      spans = subst (λ (bs : List Body). Spans file 0 bs end) (walked_by file e) s;
    }

pub walked-count : {set : CharacterSet} (file : List ℕ) {count : ℕ} → set ≡ set_of file → count ≡ length (walked_from set (length file) file 0)
    → count ≡ length (walked file)
walked-count file e c = c ∙ ap length (walked_by file e)

-- the file's header is no item
among_none : (set : CharacterSet) (bs : List Body) → addenda_among set 1 bs ≡ 0
among_none set [] = refl
among_none set (b ∷ bs) = refl

module _ (set : CharacterSet) (b : Body) (bs : List Body) (last : OnlyLast set (b ∷ bs)) where
  pub anything-marked : is_anything set (b ∷ bs) ≡ (sound_alone set 1 b && any_marked (sections_marks set (sections_of set bs)))
  unfolding is_anything
  anything-marked = ap (λ (c : Bool). sound_alone set 1 b && c) (any-marked set (sections_of set bs) (well set bs last.1))

  module _ (one : type_of set b ≡ 1) where
    values-by-marks : salvaged_values set (b ∷ bs) ≡ by_marks set false (marks_of set (b ∷ bs))
    unfolding salvaged_values by_marks marks_of
    values-by-marks =
        ap (λ (vs : List Values). values_of_body set b ∷ vs) (by-marks set (sections_of set bs) (well set bs last.1))
        ∙ sym (rw one refl)

    all_alike : CountedAlike set (marks_of set (b ∷ bs))
    unfolding marks_of
    all_alike = (
      (λ e is_open.
          rw one
          (behind-none 1 refl (by_marks set is_open (sections_marks set (sections_of set bs)))
          ∙ sym (among_none set (bodies_in (sections_marks set (sections_of set bs)))))),
      counted-alike set bs last.1,
    )

first-is-one : (set : CharacterSet) (b : Body) (bs : List Body) → is_anything set (b ∷ bs) ≡ true → type_of set b ≡ 1
unfolding is_anything sound_alone
first-is-one set b bs = by (eqb (type_of set b) 1) refl
  where
    by : (c : Bool) → eqb (type_of set b) 1 ≡ c → (c && is_right (judged_record set b)) && any_kept set (sections_of set bs) ≡ true → type_of set b ≡ 1
    by true e q = eqb-true (type_of set b) 1 e
    by false e q = cc

module _ {set : CharacterSet} {file : List ℕ} {end : ℕ} (w : WalkedTo set file end) where
  -- nothing walked
  pub nothing_walked : end ≡ 0 → false ≡ is_anything set (walked file)
  unfolding is_anything
  nothing_walked e = sym (ap (is_anything set) (none_left file 0 (walked file) end w.spans (omega (arith, e))).0)

  -- the first record, where one was walked
  module _ (some : (end ≡ 0 → ⊥)) where
    pub first-walked : First file 0 (walked file) end
    first-walked = first_of file 0 (walked file) end w.spans (omega (arith, some))

    first-last : OnlyLast set (first-walked.body ∷ first-walked.others)
    first-last = subst (OnlyLast set) first-walked.is (walked-last set file w.is)

    module _ (seen : Seen) (told : (b : Body) → Stands file 0 b → SeenAs set 0 b seen) (body : List ℕ) (of : body ≡ part seen.start seen.size file) where
      body-walked : body ≡ first-walked.body
      unfolding first-walked
      body-walked =
          let as_seen = told first-walked.body first-walked.stands in
          of ∙ ap₂ (λ (m n : ℕ). part m n file) as_seen.start as_seen.size ∙ first-walked.stands.body

      anything-as : (sound : Bool) → sound ≡ sound_alone set 1 body
          → is_anything set (walked file) ≡ (sound && any_marked (sections_marks set (sections_of set first-walked.others)))
      anything-as sound e =
          ap (is_anything set) first-walked.is
          ∙ anything-marked set first-walked.body first-walked.others first-last
          ∙ ap (λ (c : Bool). c && any_marked (sections_marks set (sections_of set first-walked.others))) (ap (sound_alone set 1) (sym body-walked) ∙ sym e)

      pub unsound-none : {sound : Bool} → sound ≡ sound_alone set 1 body → sound ≡ false → false ≡ is_anything set (walked file)
      unsound-none {sound} e q =
          sym (anything-as sound e ∙ ap (λ (c : Bool). c && any_marked (sections_marks set (sections_of set first-walked.others))) q)

      module _ (plan : Plan) (stands : (bs : List Body) → Spans file seen.next bs end → end ≤ 268_435_456 → Left set file end plan (sections_marks set (sections_of set bs))) where
        left_behind : Left set file end plan (sections_marks set (sections_of set first-walked.others))
        left_behind =
            stands first-walked.others
            (subst (λ (m : ℕ). Spans file m first-walked.others end) (sym (told first-walked.body first-walked.stands).next) first-walked.spans)
            (omega (arith, w.within, w.limit))

        pub planned-behind : Planned set file end plan
        planned-behind = record { marks = sections_marks set (sections_of set first-walked.others); left = left_behind }

        pub any_left : {sound any : Bool} → sound ≡ sound_alone set 1 body → sound ≡ true → ((ms : List Marked) → Left set file end plan ms → any ≡ any_marked ms)
            → any ≡ is_anything set (walked file)
        any_left {sound} e q found =
            found (sections_marks set (sections_of set first-walked.others)) left_behind
            ∙ sym (anything-as sound e ∙ ap (λ (c : Bool). c && any_marked (sections_marks set (sections_of set first-walked.others))) q)

  -- where anything is left, the marking begins at the first record
  module _ (any : is_anything set (walked file) ≡ true) (plan : Plan)
      (stands : (b : Body) (bs : List Body) → Spans file 0 (b ∷ bs) end → end ≤ 268_435_456 → Left set file end plan (marks_of set (b ∷ bs)))
      (at : plan.at ≡ 0) where
    pub all_left : Left set file end plan (marks_of set (walked file))
    unfolding is_anything
    all_left = by (walked file) w.spans any
      where
        by : (bs : List Body) → Spans file 0 bs end → is_anything set bs ≡ true → Left set file end plan (marks_of set bs)
        by [] s e = let z : ◌≡◌ {A = ℕ} 0 1 = cc in absurd (omega arith)
        by (b ∷ bs) s e = stands b bs s (omega (arith, w.within, w.limit))

    values-and-alike : (bs : List Body) → OnlyLast set bs → is_anything set bs ≡ true
        → (salvaged_values set bs ≡ by_marks set false (marks_of set bs)) × CountedAlike set (marks_of set bs)
    unfolding is_anything
    values-and-alike [] last e = let z : ◌≡◌ {A = ℕ} 0 1 = cc in absurd (omega arith)
    values-and-alike (b ∷ bs) last e = (
      values-by-marks set b bs last (first-is-one set b bs e),
      all_alike set b bs last (first-is-one set b bs e),
    )

    pub cued : Cued set file end (record { plan = plan; «open» = false; done = false }) (values_left file)
    unfolding values_left
    cued =
        let both = values-and-alike (walked file) (walked-last set file w.is) any in
        record {
          marks = marks_of set (walked file);
          left = all_left;
          spans = rw (at, each-once set (walked file)) w.spans;
          alike = both.1;
          values = ap (λ (s : CharacterSet). salvaged_values s (walked file)) (sym w.is) ∙ both.0;
        }

    pub listable : (count room : ℕ) → count ≡ length (walked file) → count ≤ room / 4 → Listable set file end plan room
    listable count room counted h =
        record {
          marks = marks_of set (walked file);
          left = all_left;
          within = omega (arith, counted, h, sym (length-map (marks_of set (walked file)) (λ (m : Marked). m.body)) ∙ ap length (each-once set (walked file)));
        }
