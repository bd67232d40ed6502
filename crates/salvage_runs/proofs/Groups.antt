-- The groups under a header, one after the other. Assumes nothing.
use Prim.Native.Nat.{ℕ, zero, suc, ◌+◌, ◌≤◌, ◌<◌}
use native.Mathlib.Omega.{arith}
use mathlib.Core.Bool.{Bool, true, false, ◌&&◌, ◌||◌, cond}
use mathlib.Core.List.{List, [], ◌∷◌, ◌++◌}
use mathlib.Core.Option.{Option, none, some}
use mathlib.Core.Path.{◌≡◌, refl, sym, ap, ◌∙◌}
use lib.Dec.{eqb}
use lib.ListN.{length}
use borrow.Author.Tests.{eq-eqb, ne_eqb}
use Rattle.text.specs.declared.character_set.CharacterSet.{CharacterSet}
use Rattle.judge.specs.Alone.{type_of}
use Rattle.passes.specs.declared.Fault.{Fault}
use Rattle.file_as_records.specs.Framed.{Body}
use Rattle.salvage_model.specs.Runs.{leading, following, of, not_of, Group, run, loose, stretch_then, groups_from, groups_of, run_fault}
use Rattle.salvage_model.specs.Kept.{is_through, is_sound_bundle, any_bundle}
use Rattle.salvage_walk.specs.declared.Seen.{Seen}
use Rattle.salvage_walk.specs.declared.Sort.TheVariants.{InStretch, Views}
use Rattle.salvage_walk.specs.Spans.{Stands, Spans, SeenAs, of_sort, Parted}
use Rattle.salvage_walk.proofs.Sorts.{First, first_of, none_left, spans-within}
use Rattle.salvage_runs.specs.declared.Group.TheVariants.{Bundle, Credit, Loose}
use Rattle.salvage_runs.specs.declared.Grouped.{Grouped}
use Rattle.std.specs.Prelude.{Result, is_ok}
use Rattle.salvage_runs.specs.RunAt.{read_through, is_run, is_bundle, RunAt, GroupAt}

pub following-short : (test : Body → Bool) (bs : List Body) → length (following test bs) ≤ length bs
following-short test [] = omega arith
following-short test (b ∷ bs) = by (test b) (following-short test bs)
  where
    by : (c : Bool) → length (following test bs) ≤ length bs → length (cond c (following test bs) (b ∷ bs)) ≤ length (b ∷ bs)
    by true h = omega arith
    by false h = omega arith

cond_same : {A : Type 0} (c : Bool) {x x' y y' : A} → x ≡ x' → y ≡ y' → cond c x y ≡ cond c x' y'
cond_same true p q = p
cond_same false p q = q

module _ (set : CharacterSet) where
  stretch-same : (inside rest : List Body) (f g : List Body → List Group) → ((cs : List Body) → length cs ≤ length rest → f cs ≡ g cs)
      → stretch_then set inside rest f ≡ stretch_then set inside rest g
  stretch-same inside [] f g h = refl
  stretch-same inside (c ∷ cs) f g h =
      cond_same (eqb (type_of set c) 70) (ap (λ (gs : List Group). run (inside ++ (c ∷ [])) ∷ gs) (h cs (omega arith)))
      (ap (λ (gs : List Group). loose inside ∷ gs) (h (c ∷ cs) (omega arith)))

  -- how many may still come makes no difference
  groups-fuel : (m n : ℕ) (bs : List Body) → length bs ≤ m → length bs ≤ n → groups_from set m bs ≡ groups_from set n bs
  unfolding groups_from
  groups-fuel zero zero bs p q = refl
  groups-fuel zero (suc n) [] p q = refl
  groups-fuel zero (suc n) (b ∷ bs) p q = absurd (omega arith)
  groups-fuel (suc m) zero [] p q = refl
  groups-fuel (suc m) zero (b ∷ bs) p q = absurd (omega arith)
  groups-fuel (suc m) (suc n) [] p q = refl
  groups-fuel (suc m) (suc n) (b ∷ bs) p q =
      let stretch = following (not_of set (20 ∷ 70 ∷ [])) bs in
      let views = following (of set (50 ∷ 52 ∷ 54 ∷ [])) bs in
      let short = following-short (not_of set (20 ∷ 70 ∷ [])) bs in
      let few = following-short (of set (50 ∷ 52 ∷ 54 ∷ [])) bs in
      cond_same (eqb (type_of set b) 20)
      (stretch-same (b ∷ leading (not_of set (20 ∷ 70 ∷ [])) bs) stretch (groups_from set m) (groups_from set n)
      (λ cs l. groups-fuel m n cs (omega arith) (omega arith)))
      (cond_same (eqb (type_of set b) 61)
      (ap (λ (gs : List Group). run (b ∷ leading (of set (50 ∷ 52 ∷ 54 ∷ [])) bs) ∷ gs) (groups-fuel m n views (omega arith) (omega arith)))
      (ap (λ (gs : List Group). loose (b ∷ []) ∷ gs) (groups-fuel m n bs (omega arith) (omega arith))))

  groups-as : (n : ℕ) (bs : List Body) → length bs ≤ n → groups_from set n bs ≡ groups_of set bs
  unfolding groups_of
  groups-as n bs h = groups-fuel n (length bs) bs h (omega arith)

  groups_none : groups_of set [] ≡ []
  unfolding groups_of groups_from
  groups_none = refl

  groups-one : (b : Body) (bs : List Body) → groups_of set (b ∷ bs)
      ≡ cond (eqb (type_of set b) 20)
      (stretch_then set (b ∷ leading (not_of set (20 ∷ 70 ∷ [])) bs) (following (not_of set (20 ∷ 70 ∷ [])) bs) (groups_of set))
      (cond (eqb (type_of set b) 61)
      (run (b ∷ leading (of set (50 ∷ 52 ∷ 54 ∷ [])) bs) ∷ groups_of set (following (of set (50 ∷ 52 ∷ 54 ∷ [])) bs))
      (loose (b ∷ []) ∷ groups_of set bs))
  unfolding groups_of groups_from
  groups-one b bs =
      let stretch = following (not_of set (20 ∷ 70 ∷ [])) bs in
      let views = following (of set (50 ∷ 52 ∷ 54 ∷ [])) bs in
      let short = following-short (not_of set (20 ∷ 70 ∷ [])) bs in
      let few = following-short (of set (50 ∷ 52 ∷ 54 ∷ [])) bs in
      cond_same (eqb (type_of set b) 20)
      (stretch-same (b ∷ leading (not_of set (20 ∷ 70 ∷ [])) bs) stretch (groups_from set (length bs)) (groups_of set)
      (λ cs l. groups-as (length bs) cs (omega arith)))
      (cond_same (eqb (type_of set b) 61)
      (ap (λ (gs : List Group). run (b ∷ leading (of set (50 ∷ 52 ∷ 54 ∷ [])) bs) ∷ gs) (groups-as (length bs) views (omega arith)))
      refl)

  groups-first : {bs : List Body} (b : Body) (others : List Body) → bs ≡ b ∷ others → {gs : List Group} → groups_of set (b ∷ others) ≡ gs → groups_of set bs ≡ gs
  groups-first b others e q = ap (groups_of set) e ∙ q

pub spans-append : (file : List ℕ) (xs ys : List Body) (at mid end : ℕ) → Spans file at xs mid → Spans file mid ys end → Spans file at (xs ++ ys) end
spans-append file [] ys at mid end p q = rw p q
spans-append file (x ∷ xs) ys at mid end p q = (p.0, spans-append file xs ys (at + 4 + length x) mid end p.1 q)

-- what is found of the group that begins at an offset
module _ (set : CharacterSet) (file : List ℕ) (at end : ℕ) (seen : Seen) (told : (b : Body) → Stands file at b → SeenAs set at b seen) where
  abbrev pub Grouping : Grouped → Type 0
  Grouping r = at < end → (bs : List Body) → Spans file at bs end → GroupAt set file at bs end r

  pub group-other : (seen.kind ≡ 20 → ⊥) → (seen.kind ≡ 61 → ⊥) → Grouping (record { end = seen.next; group = Loose; kind = seen.kind })
  group-other p q h bs s =
      let f = first_of file at bs end s h in
      let as_seen = told f.body f.stands in
      record {
        first = f.body;
        own = [];
        others = f.others;
        groups =
            groups-first set f.body f.others f.is
            (rw (ne_eqb (type_of set f.body) 20 (λ e. p (as_seen.kind ∙ e)), ne_eqb (type_of set f.body) 61 (λ e. q (as_seen.kind ∙ e))) at
            (groups-one set f.body f.others));
        spans = (f.stands, sym as_seen.next);
        behind = rw as_seen.next f.spans;
        bundle = refl;
        kind = as_seen.kind;
      }

  pub group-61 : seen.kind ≡ 61 → (stop : ℕ) → ((bs : List Body) → Spans file seen.next bs end → Parted set file (of_sort Views) seen.next bs end stop)
      → Grouping (record { end = stop; group = Credit; kind = seen.kind })
  group-61 q stop parts h bs s =
      let f = first_of file at bs end s h in
      let as_seen = told f.body f.stands in
      let p = parts f.others (rw as_seen.next f.spans) in
      let type : type_of set f.body ≡ 61 = sym as_seen.kind ∙ q in
      record {
        first = f.body;
        own = leading (of set (50 ∷ 52 ∷ 54 ∷ [])) f.others;
        others = following (of set (50 ∷ 52 ∷ 54 ∷ [])) f.others;
        groups = groups-first set f.body f.others f.is (rw type at (groups-one set f.body f.others));
        spans = (f.stands, rw as_seen.next at p.before);
        behind = p.behind;
        bundle = rw type refl;
        kind = as_seen.kind;
      }

  module _ (q : seen.kind ≡ 20) (stop : ℕ) (parts : (bs : List Body) → Spans file seen.next bs end → Parted set file (of_sort InStretch) seen.next bs end stop) where
    module _ (bs : List Body) (f : First file at bs end) where
      abbrev stretch : List Body
      stretch = leading (not_of set (20 ∷ 70 ∷ [])) f.others

      abbrev later : List Body
      later = following (not_of set (20 ∷ 70 ∷ [])) f.others

      as_seen : SeenAs set at f.body seen
      as_seen = told f.body f.stands

      parted : Parted set file (of_sort InStretch) seen.next f.others end stop
      parted = parts f.others (rw as_seen.next f.spans)

      inside : Spans file at (f.body ∷ stretch) stop
      inside = (f.stands, rw as_seen.next at parted.before)

      groups-20 : groups_of set bs ≡ stretch_then set (f.body ∷ stretch) later (groups_of set)
      groups-20 =
          groups-first set f.body f.others f.is
          (rw (eq-eqb (type_of set f.body) 20 (sym as_seen.kind ∙ q)) at (groups-one set f.body f.others))

    pub group-torn : end ≤ stop → Grouping (record { end = stop; group = Loose; kind = seen.kind })
    group-torn l h bs s =
        let f = first_of file at bs end s h in
        let gone = none_left file stop (later bs f) end (parted bs f).behind l in
        record {
          first = f.body;
          own = stretch bs f;
          others = [];
          groups =
              groups-20 bs f ∙ ap (λ (cs : List Body). stretch_then set (f.body ∷ stretch bs f) cs (groups_of set)) gone.0
              ∙ ap (λ (gs : List Group). loose (f.body ∷ stretch bs f) ∷ gs) (sym (groups_none set));
          spans = inside bs f;
          behind = gone.1;
          bundle = refl;
          kind = (as_seen bs f).kind;
        }

    module _ (l : stop < end) (closing : Seen) (known : (b : Body) → Stands file stop b → SeenAs set stop b closing) where
      pub group-open : (closing.kind ≡ 70 → ⊥) → Grouping (record { end = stop; group = Loose; kind = seen.kind })
      group-open t h bs s =
          let f = first_of file at bs end s h in
          let g = first_of file stop (later bs f) end (parted bs f).behind l in
          let other = ne_eqb (type_of set g.body) 70 (λ e. t ((known g.body g.stands).kind ∙ e)) in
          record {
            first = f.body;
            own = stretch bs f;
            others = g.body ∷ g.others;
            groups =
                groups-20 bs f ∙ ap (λ (cs : List Body). stretch_then set (f.body ∷ stretch bs f) cs (groups_of set)) g.is
                ∙ ap (λ (b : Bool). cond b (run ((f.body ∷ stretch bs f) ++ (g.body ∷ [])) ∷ groups_of set g.others) (loose (f.body ∷ stretch bs f) ∷ groups_of set (g.body ∷ g.others))) other;
            spans = inside bs f;
            behind = (g.stands, g.spans);
            bundle = refl;
            kind = (as_seen bs f).kind;
          }

      pub group-run : closing.kind ≡ 70 → Grouping (record { end = closing.next; group = Bundle; kind = seen.kind })
      group-run t h bs s =
          let f = first_of file at bs end s h in
          let g = first_of file stop (later bs f) end (parted bs f).behind l in
          let as-closing = known g.body g.stands in
          let closes = eq-eqb (type_of set g.body) 70 (sym as-closing.kind ∙ t) in
          record {
            first = f.body;
            own = stretch bs f ++ (g.body ∷ []);
            others = g.others;
            groups =
                groups-20 bs f ∙ ap (λ (cs : List Body). stretch_then set (f.body ∷ stretch bs f) cs (groups_of set)) g.is
                ∙ ap (λ (b : Bool). cond b (run ((f.body ∷ stretch bs f) ++ (g.body ∷ [])) ∷ groups_of set g.others) (loose (f.body ∷ stretch bs f) ∷ groups_of set (g.body ∷ g.others))) closes;
            spans = spans-append file (f.body ∷ stretch bs f) (g.body ∷ []) at stop closing.next (inside bs f) (g.stands, sym as-closing.next);
            behind = rw as-closing.next g.spans;
            bundle = sym (eq-eqb (type_of set f.body) 20 (sym (as_seen bs f).kind ∙ q));
            kind = (as_seen bs f).kind;
          }

-- a run without a fault is read through
through-ok : (o : Option Fault) → is_through o ≡ is_ok (read_through o)
through-ok none = refl
through-ok (some fault) = refl

-- any bundle that is sound
module _ (set : CharacterSet) (file : List ℕ) (header_at from end : ℕ) where
  pub record Seeking (w : RunAt set file header_at from end) (at : ℕ) : Type 0 where
    pub left : List Body
    pub spans : Spans file at left end
    pub same : any_bundle set w.header (groups_of set w.bodies) ≡ any_bundle set w.header (groups_of set left)

  abbrev pub Seeks : ℕ → Type 0
  Seeks at = (w : RunAt set file header_at from end) → Seeking w at

  pub seeks-first : Seeks from
  seeks-first w = record { left = w.bodies; spans = w.spans; same = refl }

  module _ {at : ℕ} (v : Seeks at) (w : RunAt set file header_at from end) where
    pub seeks-end : end ≤ at → false ≡ any_bundle set w.header (groups_of set w.bodies)
    seeks-end h =
        let gone = none_left file at (v w).left end (v w).spans h in
        sym ((v w).same ∙ ap (λ (bs : List Body). any_bundle set w.header (groups_of set bs)) gone.0
        ∙ ap (any_bundle set w.header) (groups_none set))

    module _ (h : at < end) (r : Grouped) (grouped : at < end → (bs : List Body) → Spans file at bs end → GroupAt set file at bs end r) where
      abbrev group : GroupAt set file at (v w).left end r
      group = grouped h (v w).left (v w).spans

      pub seeks-within : at < r.end × r.end ≤ end
      seeks-within = (
        omega (arith, spans-within file (group.first ∷ group.own) at r.end group.spans),
        omega (arith, spans-within file group.others r.end end group.behind),
      )

      -- the run itself
      abbrev pub seeks-run : RunAt set file header_at at r.end
      seeks-run = record {
        header = w.header;
        bodies = group.first ∷ group.own;
        stands = w.stands;
        sound = w.sound;
        spans = group.spans;
        limit = omega (arith, seeks-within.1, w.limit);
      }

      abbrev is_sound : Bool
      is_sound = is_sound_bundle set w.header (cond (is_run r.group) (run (group.first ∷ group.own)) (loose (group.first ∷ group.own)))

      step : any_bundle set w.header (groups_of set w.bodies) ≡ is_sound || any_bundle set w.header (groups_of set group.others)
      step = (v w).same ∙ ap (any_bundle set w.header) group.groups

      on-from : is_sound ≡ false → Seeking w r.end
      on-from e = record {
        left = group.others;
        spans = group.behind;
        same = step ∙ ap (λ (b : Bool). b || any_bundle set w.header (groups_of set group.others)) e;
      }

      pub seeks-other : is_bundle r.group ≡ false → Seeking w r.end
      seeks-other e = on-from (by (is_run r.group) (sym group.bundle ∙ e))
        where
          by : (c : Bool) → c && eqb (type_of set group.first) 20 ≡ false
              → is_sound_bundle set w.header (cond c (run (group.first ∷ group.own)) (loose (group.first ∷ group.own))) ≡ false
          by true q = ap (λ (b : Bool). b && is_through (run_fault set w.header (group.first ∷ group.own))) q
          by false q = refl

      module _ (e : is_bundle r.group ≡ true) (read : Result (Unit {0}) Fault)
          (found : (x : RunAt set file header_at at r.end) → read ≡ read_through (run_fault set x.header x.bodies)) where
        sound-as : is_sound ≡ is_ok read
        sound-as = by (is_run r.group) (sym group.bundle ∙ e)
          where
            by : (c : Bool) → c && eqb (type_of set group.first) 20 ≡ true
                → is_sound_bundle set w.header (cond c (run (group.first ∷ group.own)) (loose (group.first ∷ group.own))) ≡ is_ok read
            by true q =
                ap (λ (b : Bool). b && is_through (run_fault set w.header (group.first ∷ group.own))) q
                ∙ through-ok (run_fault set w.header (group.first ∷ group.own))
                ∙ ap is_ok (sym (found seeks-run))
            by false q = cc

        pub seeks-found : is_ok read ≡ true → true ≡ any_bundle set w.header (groups_of set w.bodies)
        seeks-found z = sym (step ∙ ap (λ (b : Bool). b || any_bundle set w.header (groups_of set group.others)) (sound-as ∙ z))

        pub seeks-unsound : is_ok read ≡ false → Seeking w r.end
        seeks-unsound z = on-from (sound-as ∙ z)
