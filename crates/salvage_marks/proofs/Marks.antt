-- The next mark, by where the plan stands. Assumes nothing.
use Prim.Native.Nat.{ℕ, ◌+◌, ◌≤◌, ◌<◌}
use native.Mathlib.Omega.{arith}
use mathlib.Core.Bool.{Bool, true, false, ◌&&◌, ◌||◌, cond}
use mathlib.Core.List.{List, [], ◌∷◌, ◌++◌, map, append_assoc}
use mathlib.Core.Option.{Option, none, some}
use mathlib.Core.Path.{◌≡◌, refl, sym, ap, ap₂, ◌∙◌, subst}
use lib.Dec.{eqb}
use lib.ListN.{length}
use borrow.Author.Tests.{eq-eqb, ne_eqb}
use Rattle.text.specs.declared.character_set.CharacterSet.{CharacterSet}
use Rattle.judge.specs.Alone.{type_of}
use Rattle.frame.specs.Frames.{part}
use Rattle.passes.specs.declared.Fault.{Fault}
use Rattle.passes.specs.declared.Fault.TheVariants.{Place}
use Rattle.passes.specs.Answers.{number_of}
use Rattle.file_as_records.specs.Framed.{Body}
use Rattle.arrangement.specs.Sound.{indicator, N}
use Rattle.salvage_model.specs.Runs.{leading, following, Group, run, loose, groups_of, sound_alone, run_fault}
use Rattle.salvage_model.specs.Kept.{any_bundle, sections_of, Fate, kept, renewed, dropped, Marked, marked, out_of_place, run_fate, sections_marks, marks_of}
use Rattle.salvage_walk.specs.declared.Seen.{Seen}
use Rattle.salvage_walk.specs.declared.Sort.TheVariants.{UnderHeader}
use Rattle.salvage_walk.specs.Spans.{Stands, Spans, SeenAs, of_sort, Parted}
use Rattle.salvage_walk.proofs.Sorts.{first_of, none_left, spans-within}
use Rattle.salvage_runs.specs.declared.Grouped.{Grouped}
use Rattle.salvage_runs.specs.RunAt.{read_through, is_run, RunAt, GroupAt}
use Rattle.std.specs.Prelude.{Result, Ok, Err}
use Rattle.salvage_marks.specs.declared.Fate as code
use Rattle.salvage_marks.specs.declared.Fate.TheVariants.{Kept, MadeNew, Dropped}
use Rattle.salvage_marks.specs.declared.Plan.{Plan}
use Rattle.salvage_marks.specs.Left.{meant, group_fate, bodies_of, groups_marked, tail_marked, Left, NextMark, GroupFate}
use Rattle.salvage_marks.proofs.Sections.{under, kept_letter, groups_none, tail-10, tail-renewed, tail-dropped, tail_none}

pub never_both : (b : Bool) → b ≡ false → b ≡ true → ⊥
never_both b p q =
    let e : false ≡ true = sym p ∙ q in
    let z : ◌≡◌ {A = ℕ} 0 1 = cc in
    omega arith

pub both_hold : (a b : Bool) → a && b ≡ true → b ≡ true
both_hold true b e = e
both_hold false b e = cc

-- the fate of a group
module _ (set : CharacterSet) (file : List ℕ) (p : Plan) (g : Grouped) where
  pub fate-loose : is_run g.group && p.sound ≡ false → GroupFate set file p g (Dropped Place)
  fate-loose e = record { loosely = λ _. refl; runs = λ q. absurd (never_both (is_run g.group && p.sound) e q) }

  module _ (e : is_run g.group && p.sound ≡ true) (read : Result (Unit {0}) Fault)
      (found : (w : RunAt set file p.heading p.at g.end) → read ≡ read_through (run_fault set w.header w.bodies)) where
    pub fate-fault : (fault : Fault) → read ≡ Err fault → GroupFate set file p g (Dropped fault)
    fate-fault fault q = record {
      loosely = λ r. absurd (never_both (is_run g.group && p.sound) r e);
      runs = λ _ w. by (run_fault set w.header w.bodies) (sym (found w) ∙ q);
    }
      where
        by : (o : Option Fault) → read_through o ≡ Err fault → dropped (number_of fault) ≡ run_fate p.kept o
        by none r = cc
        by (some other) r = let same : other ≡ fault = cc in ap (λ (f : Fault). dropped (number_of f)) (sym same)

    pub fate-through : (t : Unit {0}) → read ≡ Ok t → (r : code.Fate) → meant r ≡ cond p.kept kept out_of_place → GroupFate set file p g r
    fate-through t q r k = record {
      loosely = λ b. absurd (never_both (is_run g.group && p.sound) b e);
      runs = λ _ w. k ∙ by (run_fault set w.header w.bodies) (sym (found w) ∙ q);
    }
      where
        by : (o : Option Fault) → read_through o ≡ Ok t → cond p.kept kept out_of_place ≡ run_fate p.kept o
        by none r = refl
        by (some other) r = cc

-- Annex B
pub annex-none : (set : CharacterSet) (x : ℕ) (body header : Body) (any : Bool) → x ≡ indicator set body → x ≡ N → body ≡ header
    → true ≡ (eqb (indicator set header) N || any)
annex-none set x body header any e n q =
    sym (ap (λ (b : Bool). b || any) (eq-eqb (indicator set header) N (ap (indicator set) (sym q) ∙ sym e ∙ n)))

pub annex-any : (set : CharacterSet) (x : ℕ) (body header : Body) (any : Bool) → x ≡ indicator set body → (x ≡ N → ⊥) → body ≡ header
    → any ≡ (eqb (indicator set header) N || any)
annex-any set x body header any e n q =
    sym (ap (λ (b : Bool). b || any) (ne_eqb (indicator set header) N (λ z. n (e ∙ ap (indicator set) q ∙ z))))

-- under no header
pub left-outside : (set : CharacterSet) (file : List ℕ) (at end : ℕ) (bs : List Body) → Spans file at bs end → end ≤ 268_435_456
    → Left set file end (record { at = at; group = at; stop = at; heading = 0; sound = false; kept = false; fate = Dropped Place })
    (sections_marks set (sections_of set bs))
unfolding sound_alone type_of
left-outside set file at end bs s l = record {
  fate = out_of_place;
  header = [];
  own = [];
  under = [];
  rest = bs;
  own_spans = refl;
  under_spans = refl;
  rest_spans = s;
  told = refl;
  sound = refl;
  stands = λ e. let z : ◌≡◌ {A = ℕ} 0 1 = cc in absurd (omega arith);
  limit = l;
  marks = sym (tail_none set bs) ∙ ap (λ (gs : List Group). groups_marked set [] false gs ++ tail_marked set false bs) (sym (groups_none set));
}

-- at the first record of a file: it is kept, and what stands behind it is under no header
pub left-of-file : (set : CharacterSet) (file : List ℕ) (next end : ℕ) (b : Body) (bs : List Body) → next ≡ 4 + length b → Spans file 0 (b ∷ bs) end
    → end ≤ 268_435_456
    → Left set file end (record { at = 0; group = next; stop = next; heading = 0; sound = false; kept = false; fate = Kept }) (marks_of set (b ∷ bs))
unfolding marks_of sound_alone type_of
left-of-file set file next end b bs e s l = record {
  fate = kept;
  header = [];
  own = b ∷ [];
  under = [];
  rest = bs;
  own_spans = (s.0, sym e);
  under_spans = refl;
  rest_spans = subst (λ (m : ℕ). Spans file m bs end) (sym e) s.1;
  told = refl;
  sound = refl;
  stands = λ e. let z : ◌≡◌ {A = ℕ} 0 1 = cc in absurd (omega arith);
  limit = l;
  marks =
      ap (λ (ms : List Marked). marked kept b ∷ ms)
      (sym (tail_none set bs) ∙ ap (λ (gs : List Group). groups_marked set [] false gs ++ tail_marked set false bs) (sym (groups_none set)));
}

-- where the marking stands at the end, nothing is left
pub left-none : (set : CharacterSet) (file : List ℕ) (end : ℕ) (p : Plan) (ms : List Marked) → Left set file end p ms → end ≤ p.at → ms ≡ []
left-none set file end p ms v h =
    let in-own = spans-within file v.own p.at p.group v.own_spans in
    let in-under = spans-within file v.under p.group p.stop v.under_spans in
    let in_rest = spans-within file v.rest p.stop end v.rest_spans in
    let none-own : v.own ≡ [] = (none_left file p.at v.own p.group v.own_spans (omega (arith, in-under, in_rest))).0 in
    let none-under : v.under ≡ [] = (none_left file p.group v.under p.stop v.under_spans (omega (arith, in-own, in_rest))).0 in
    let none_rest : v.rest ≡ [] = (none_left file p.stop v.rest end v.rest_spans (omega (arith, in-own, in-under))).0 in
    v.marks
    ∙ ap (λ (bs : List Body). map (marked v.fate) bs ++ (groups_marked set v.header p.kept (groups_of set v.under) ++ tail_marked set p.kept v.rest)) none-own
    ∙ ap (λ (bs : List Body). groups_marked set v.header p.kept (groups_of set bs) ++ tail_marked set p.kept v.rest) none-under
    ∙ ap (λ (gs : List Group). groups_marked set v.header p.kept gs ++ tail_marked set p.kept v.rest) (groups_none set)
    ∙ ap (tail_marked set p.kept) none_rest

module _ (set : CharacterSet) (file : List ℕ) (end : ℕ) (p : Plan) (seen : Seen) (told : (b : Body) → Stands file p.at b → SeenAs set p.at b seen) where
  -- in a group
  module _ (ms : List Marked) (v : Left set file end p ms) (h : p.at < p.group) where
    pub next-in-group : NextMark set file end p ms
        (record {
          start = seen.start;
          size = seen.size;
          kind = seen.kind;
          fate = p.fate;
          next = record {
            at = seen.next;
            group = p.group;
            stop = p.stop;
            heading = p.heading;
            sound = p.sound;
            kept = p.kept;
            fate = p.fate;
          };
        })
    next-in-group =
        let f = first_of file p.at v.own p.group v.own_spans h in
        let as_seen = told f.body f.stands in
        let behind = groups_marked set v.header p.kept (groups_of set v.under) ++ tail_marked set p.kept v.rest in
        record {
          body = f.body;
          fate = v.fate;
          others = map (marked v.fate) f.others ++ behind;
          is = v.marks ∙ ap (λ (bs : List Body). map (marked v.fate) bs ++ behind) f.is;
          left = record {
            fate = v.fate;
            header = v.header;
            own = f.others;
            under = v.under;
            rest = v.rest;
            own_spans = rw as_seen.next f.spans;
            under_spans = v.under_spans;
            rest_spans = v.rest_spans;
            told = v.told;
            sound = v.sound;
            stands = v.stands;
            limit = v.limit;
            marks = refl;
          };
          stands = f.stands;
          start = as_seen.start;
          size = as_seen.size;
          kind = as_seen.kind;
          told = v.told;
          at = as_seen.next;
        }

  -- where a group begins
  module _ (g : p.group ≤ p.at) (h : p.at < p.stop) (r : Grouped)
      (grouped : p.at < p.stop → (bs : List Body) → Spans file p.at bs p.stop → GroupAt set file p.at bs p.stop r) where
    module _ (ms : List Marked) (v : Left set file end p ms) where
      gone : (v.own ≡ []) × (p.at ≡ p.group)
      gone = none_left file p.at v.own p.group v.own_spans g

      group : GroupAt set file p.at v.under p.stop r
      group = grouped h v.under (rw gone.1 v.under_spans)

      abbrev bodies : List Body
      bodies = group.first ∷ group.own

      abbrev found : Group
      found = cond (is_run r.group) (run bodies) (loose bodies)

      pub group-run-at : p.sound ≡ true → RunAt set file p.heading p.at r.end
      unfolding group
      group-run-at e = record {
        header = v.header;
        bodies = bodies;
        stands = v.stands e;
        sound = sym v.sound ∙ e;
        spans = group.spans;
        limit = omega (
          arith,
          spans-within file group.others r.end p.stop group.behind,
          spans-within file v.rest p.stop end v.rest_spans,
          v.limit,
        );
      }

      bodies-found : bodies_of found ≡ bodies
      bodies-found = by (is_run r.group)
        where
          by : (c : Bool) → bodies_of (cond c (run bodies) (loose bodies)) ≡ bodies
          by true = refl
          by false = refl

      fate-found : (f : code.Fate) → GroupFate set file p r f → meant f ≡ group_fate set v.header p.kept found
      unfolding group group-run-at
      fate-found f n = by (is_run r.group) refl p.sound refl
        where
          by : (c : Bool) → is_run r.group ≡ c → (s : Bool) → p.sound ≡ s
              → meant f ≡ group_fate set v.header p.kept (cond c (run bodies) (loose bodies))
          by true c true s =
              n.runs (ap₂ ◌&&◌ c s) (group-run-at s)
              ∙ ap (λ (b : Bool). cond b (run_fate p.kept (run_fault set v.header bodies)) out_of_place) (sym s ∙ v.sound)
          by true c false s =
              n.loosely (ap₂ ◌&&◌ c s)
              ∙ ap (λ (b : Bool). cond b (run_fate p.kept (run_fault set v.header bodies)) out_of_place) (sym s ∙ v.sound)
          by false c s q = n.loosely (ap (λ (b : Bool). b && p.sound) c)

      pub next-group : (f : code.Fate) → GroupFate set file p r f
          → NextMark set file end p ms
          (record {
            start = seen.start;
            size = seen.size;
            kind = seen.kind;
            fate = f;
            next = record {
              at = seen.next;
              group = r.end;
              stop = p.stop;
              heading = p.heading;
              sound = p.sound;
              kept = p.kept;
              fate = f;
            };
          })
      unfolding group gone
      next-group f n =
          let fate : Fate = group_fate set v.header p.kept found in
          let as_seen = told group.first group.spans.0 in
          let same : meant f ≡ fate = fate-found f n in
          let later = groups_marked set v.header p.kept (groups_of set group.others) in
          let rest = tail_marked set p.kept v.rest in
          record {
            body = group.first;
            fate = fate;
            others = map (marked fate) group.own ++ (later ++ rest);
            is =
                v.marks
                ∙ ap (λ (bs : List Body). map (marked v.fate) bs ++ (groups_marked set v.header p.kept (groups_of set v.under) ++ rest)) gone.0
                ∙ ap (λ (gs : List Group). groups_marked set v.header p.kept gs ++ rest) group.groups
                ∙ append_assoc (map (marked fate) (bodies_of found)) later rest
                ∙ ap (λ (bs : List Body). map (marked fate) bs ++ (later ++ rest)) bodies-found;
            left = record {
              fate = fate;
              header = v.header;
              own = group.own;
              under = group.others;
              rest = v.rest;
              own_spans = subst (λ (m : ℕ). Spans file m group.own r.end) (sym as_seen.next) group.spans.1;
              under_spans = group.behind;
              rest_spans = v.rest_spans;
              told = same;
              sound = v.sound;
              stands = v.stands;
              limit = v.limit;
              marks = refl;
            };
            stands = group.spans.0;
            start = as_seen.start;
            size = as_seen.size;
            kind = as_seen.kind;
            told = same;
            at = as_seen.next;
          }

  -- where no header is over it
  module _ (g : p.group ≤ p.at) (t : p.stop ≤ p.at) (h : p.at < end) where
    -- the record that stands there
    pub record Tail (ms : List Marked) : Type 0 where
      pub first : Body
      pub others : List Body
      pub stands : Stands file p.at first
      pub spans : Spans file seen.next others end
      pub marks : ms ≡ tail_marked set p.kept (first ∷ others)
      pub limit : end ≤ 268_435_456

    pub tail_of : (ms : List Marked) → Left set file end p ms → Tail ms
    tail_of ms v =
        let none-own = none_left file p.at v.own p.group v.own_spans g in
        let none-under = none_left file p.group v.under p.stop v.under_spans (omega (arith, t, none-own.1)) in
        let here : p.at ≡ p.stop = none-own.1 ∙ none-under.1 in
        let f = first_of file p.at v.rest end (rw here v.rest_spans) h in
        record {
          first = f.body;
          others = f.others;
          stands = f.stands;
          spans = rw (told f.body f.stands).next f.spans;
          marks =
              v.marks
              ∙ ap (λ (bs : List Body). map (marked v.fate) bs ++ (groups_marked set v.header p.kept (groups_of set v.under) ++ tail_marked set p.kept v.rest)) none-own.0
              ∙ ap (λ (bs : List Body). groups_marked set v.header p.kept (groups_of set bs) ++ tail_marked set p.kept v.rest) none-under.0
              ∙ ap (λ (gs : List Group). groups_marked set v.header p.kept gs ++ tail_marked set p.kept v.rest) (groups_none set)
              ∙ ap (tail_marked set p.kept) f.is;
          limit = v.limit;
        }

    module _ (ms : List Marked) (v : Left set file end p ms) where
      -- no header either
      module _ (next : Plan) (stands : (bs : List Body) → Spans file seen.next bs end → end ≤ 268_435_456 → Left set file end next (sections_marks set (sections_of set bs)))
          (at : next.at ≡ seen.next) where
        next-outside : (fate : Fate) → ms ≡ marked fate (tail_of ms v).first ∷ sections_marks set (sections_of set (tail_of ms v).others)
            → (f : code.Fate) → meant f ≡ fate
            → NextMark set file end p ms (record { start = seen.start; size = seen.size; kind = seen.kind; fate = f; next = next })
        next-outside fate e f same =
            let f = tail_of ms v in
            let as_seen = told f.first f.stands in
            record {
              body = f.first;
              fate = fate;
              others = sections_marks set (sections_of set f.others);
              is = e;
              left = stands f.others f.spans f.limit;
              stands = f.stands;
              start = as_seen.start;
              size = as_seen.size;
              kind = as_seen.kind;
              told = same;
              at = at ∙ as_seen.next;
            }

        pub next-renewed : eqb seen.kind 99 || (p.kept && eqb seen.kind 90) ≡ true → NextMark set file end p ms
            (record { start = seen.start; size = seen.size; kind = seen.kind; fate = MadeNew; next = next })
        next-renewed e =
            let f = tail_of ms v in
            let as_seen = told f.first f.stands in
            next-outside renewed
            (f.marks
            ∙ tail-renewed set p.kept f.first f.others (ap (λ (k : ℕ). eqb k 99 || (p.kept && eqb k 90)) (sym as_seen.kind) ∙ e)) MadeNew refl

        pub next-dropped : (seen.kind ≡ 10 → ⊥) → eqb seen.kind 99 || (p.kept && eqb seen.kind 90) ≡ false → NextMark set file end p ms
            (record { start = seen.start; size = seen.size; kind = seen.kind; fate = Dropped Place; next = next })
        next-dropped o e =
            let f = tail_of ms v in
            let as_seen = told f.first f.stands in
            next-outside out_of_place
            (f.marks
            ∙ tail-dropped set p.kept f.first f.others (λ q. o (as_seen.kind ∙ q))
            (ap (λ (k : ℕ). eqb k 99 || (p.kept && eqb k 90)) (sym as_seen.kind) ∙ e)) (Dropped Place) refl

      -- a cash letter header
      module _ (ten : seen.kind ≡ 10) (stop : ℕ)
          (parts : (bs : List Body) → Spans file seen.next bs end → Parted set file (of_sort UnderHeader) seen.next bs end stop) (body : List ℕ)
          (is : body ≡ part seen.start seen.size file) (sound : Bool) (judged : sound ≡ sound_alone set 10 body) where
        abbrev top : Tail ms
        top = tail_of ms v

        pub body_top : body ≡ top.first
        body_top =
            let as_seen = told top.first top.stands in
            is ∙ ap₂ (λ (m n : ℕ). part m n file) as_seen.start as_seen.size ∙ top.stands.body

        parted : Parted set file (of_sort UnderHeader) seen.next top.others end stop
        parted = parts top.others top.spans

        pub letter-run : sound ≡ true → RunAt set file p.at seen.next stop
        letter-run e = record {
          header = top.first;
          bodies = leading (under set) top.others;
          stands = top.stands;
          sound = ap (sound_alone set 10) (sym body_top) ∙ sym judged ∙ e;
          spans = parted.before;
          limit = omega (arith, spans-within file (following (under set) top.others) stop end parted.behind, top.limit);
        }

        pub next-letter : (is_kept : Bool) → (sound ≡ false → is_kept ≡ false)
            → (sound ≡ true → (w : RunAt set file p.at seen.next stop) → body ≡ w.header
            → is_kept ≡ (eqb (indicator set w.header) N || any_bundle set w.header (groups_of set w.bodies)))
            → (f : code.Fate) → meant f ≡ cond is_kept kept out_of_place
            → NextMark set file end p ms
            (record {
              start = seen.start;
              size = seen.size;
              kind = 10;
              fate = f;
              next = record { at = seen.next; group = seen.next; stop = stop; heading = p.at; sound = sound; kept = is_kept; fate = Dropped Place };
            })
        unfolding letter-run
        next-letter is_kept unsound annex f told-fate =
            let gs = groups_of set (leading (under set) top.others) in
            let as_seen = told top.first top.stands in
            let alone : sound ≡ sound_alone set 10 top.first = judged ∙ ap (sound_alone set 10) body_top in
            let same : is_kept ≡ kept_letter set top.first gs =
            by sound refl ∙ ap (λ (b : Bool). b && (eqb (indicator set top.first) N || any_bundle set top.first gs)) alone in
            record {
              body = top.first;
              fate = cond is_kept kept out_of_place;
              others = groups_marked set top.first is_kept gs ++ tail_marked set is_kept (following (under set) top.others);
              is =
                  top.marks
                  ∙ tail-10 set p.kept top.first top.others (sym as_seen.kind ∙ ten)
                  ∙ ap (λ (k : Bool). marked (cond k kept out_of_place) top.first ∷ (groups_marked set top.first k gs ++ tail_marked set k (following (under set) top.others))) (sym same);
              left = record {
                fate = out_of_place;
                header = top.first;
                own = [];
                under = leading (under set) top.others;
                rest = following (under set) top.others;
                own_spans = refl;
                under_spans = parted.before;
                rest_spans = parted.behind;
                told = refl;
                sound = alone;
                stands = λ _. top.stands;
                limit = top.limit;
                marks = refl;
              };
              stands = top.stands;
              start = as_seen.start;
              size = as_seen.size;
              kind = sym ten ∙ as_seen.kind;
              told = told-fate;
              at = as_seen.next;
            }
          where
            by : (b : Bool) → sound ≡ b
                → is_kept ≡ sound && (eqb (indicator set top.first) N || any_bundle set top.first (groups_of set (leading (under set) top.others)))
            by true e =
                annex e (letter-run e) body_top
                ∙ ap (λ (b : Bool). b && (eqb (indicator set top.first) N || any_bundle set top.first (groups_of set (leading (under set) top.others)))) (sym e)
            by false e =
                unsound e
                ∙ ap (λ (b : Bool). b && (eqb (indicator set top.first) N || any_bundle set top.first (groups_of set (leading (under set) top.others)))) (sym e)
