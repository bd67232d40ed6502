-- Good records that are a run are a bundle, or a credit, written out. Assumes nothing.
use Prim.Native.Nat.{ℕ}
use mathlib.Core.Bool.{Bool, true, false, ◌&&◌, ◌||◌, not, cond}
use mathlib.Core.List.{List, [], ◌∷◌}
use mathlib.Core.Option.{none}
use mathlib.Core.Path.{◌≡◌, refl}
use lib.Dec.{eqb}
use borrow.Author.Tests.{eqb-true}
use Rattle.text.specs.declared.character_set.CharacterSet.{CharacterSet}
use Rattle.text.specs.DataTypes.{every}
use Rattle.judge.specs.Alone.{type_of}
use Rattle.order.specs.MayFollow.{inside, outside, is_one_of, in_table, follows}
use Rattle.order.proofs.Laws.{among}
use Rattle.order.proofs.Pairs.{listed}
use Rattle.file_as_records.specs.Framed.{Body}
use Rattle.file_as_records.proofs.Figures.{inside_in, last_in}
use Rattle.file_as_records.proofs.Good.{Good, GoodTo}
use Rattle.file_as_records.proofs.Tests.{both, refuted, untrue, where-in}
use Rattle.arrangement.specs.Tree.{Content, bundled, direct}
use Rattle.arrangement.specs.Written.{content_then}
use Rattle.arrangement.specs.TypesInPlace.{OfType, TypedContent}
use Rattle.arrangement.proofs.Turns.{follows-in}
use Rattle.arrangement.proofs.Shape.{Nothing, then, Items, Views, Rest, Kept, end, and, open_after, inside-kept, view_lines, views-kept, of-list, of-table}
use Rattle.salvage_model.specs.Runs.{of, not_of}
use Rattle.salvage_model.specs.Promises.{ends_at70, every_of, is_run}
use Rattle.salvage_sound.proofs.ReadAsGood.{Stays, NotBehind50}

-- neither of two types
record Neither (t : ℕ) : Type 0 where
  not-20 : eqb t 20 ≡ false
  not-70 : eqb t 70 ≡ false

neither : (t : ℕ) → not (is_one_of t (20 ∷ 70 ∷ [])) ≡ true → Neither t
neither t e = cases (eqb t 20) (eqb t 70) refl refl (untrue _ e)
  where
    cases : (c d : Bool) → eqb t 20 ≡ c → eqb t 70 ≡ d → c || (d || false) ≡ false → Neither t
    cases true d p q h = record { not-20 = cc; not-70 = cc }
    cases false true p q h = record { not-20 = p; not-70 = cc }
    cases false false p q h = record { not-20 = p; not-70 = q }

-- the types of a credit's views
abbrev view_types : List ℕ
view_types = 50 ∷ 52 ∷ 54 ∷ []

none_of : (t n : ℕ) → every (λ u. not (eqb u n)) view_types ≡ true → is_one_of t view_types ≡ true → eqb t n ≡ false
none_of t n h e = untrue (eqb t n) (among (λ u. not (eqb u n)) t view_types h e)

module _ (set : CharacterSet) (past : List Body) (b : Body) where
  -- a bundle stays open
  open-still : inside_in set past ≡ true → Neither (type_of set b) → inside_in set (b ∷ past) ≡ true
  open-still inside_is n = rw (n.not-20, n.not-70) inside_is

  after-still : Neither (type_of set b) → open_after true (type_of set b) ≡ true
  after-still n = rw (n.not-20, n.not-70)

  -- no bundle is opened by a view
  closed-still : inside_in set past ≡ false → is_one_of (type_of set b) view_types ≡ true → inside_in set (b ∷ past) ≡ false
  closed-still outside-is v =
      rw (none_of (type_of set b) 20 refl v, none_of (type_of set b) 70 refl v) outside-is

  in-bundle : inside_in set past ≡ true → Good set past b → in_table inside (last_in set past) (type_of set b) ≡ true
  unfolding follows
  in-bundle inside_is g = rw inside_is at (follows-in set (type_of set b) past b g)

  no-90 : inside_in set past ≡ true → Good set past b → eqb (type_of set b) 90 ≡ false
  no-90 inside_is g =
      untrue _ (listed (λ last next. not (eqb next 90)) (last_in set past) (type_of set b) inside refl (in-bundle inside_is g))

  in-views : inside_in set past ≡ false → is_one_of (type_of set b) view_types ≡ true → Good set past b
      → in_table view_lines (last_in set past) (type_of set b) ≡ true
  unfolding follows
  in-views outside-is v g =
      where-in (is_one_of (type_of set b) view_types) _
      (listed (λ last next. not (is_one_of next view_types) || in_table view_lines last next) (last_in set past) (type_of set b) outside refl
      (rw outside-is at (follows-in set (type_of set b) past b g))) v

module _ (set : CharacterSet) where
  bundle-rest : (End : List Body → Type 0) (bs past : List Body) → inside_in set past ≡ true → ends_at70 set bs ≡ true → GoodTo End set past bs
      → Rest set Nothing true (last_in set past) bs
  bundle-rest End [] past inside_is ends good = refuted false refl ends
  bundle-rest End (b ∷ []) past inside_is ends good =
      (of-table (Kept set Nothing true b []) (last_in set past) (type_of set b) inside (inside-kept set Nothing b [])
      (in-bundle set past b inside_is good.first)).before refl (rw (eqb-true (type_of set b) 70 ends) refl)
  bundle-rest End (b ∷ c ∷ bs) past inside_is ends good =
      let tests = both (not_of set (20 ∷ 70 ∷ []) b) (ends_at70 set (c ∷ bs)) ends in
      let n = neither (type_of set b) tests.0 in
      let others = bundle-rest End (c ∷ bs) (b ∷ past) (open-still set past b inside_is n) tests.1 good.rest in
      (of-table (Kept set Nothing true b (c ∷ bs)) (last_in set past) (type_of set b) inside (inside-kept set Nothing b (c ∷ bs))
      (in-bundle set past b inside_is good.first)).before refl (rw (after-still set past b n) others)

  views-end : (last : ℕ) → is_one_of last (61 ∷ view_types) ≡ true → eqb last 50 ≡ false → Rest set Nothing false last []
  views-end last e =
      of-list (λ t. eqb t 50 ≡ false → Rest set Nothing false t []) last (61 ∷ view_types)
      (and {x = 61} (λ f. then [] [] tt refl)
      (and {x = 50} (λ f. refuted true f refl) (and {x = 52} (λ f. then none [] tt (then [] [] tt refl)) (and {x = 54} (λ f. then [] [] tt refl) end)))) e

  later : (t : ℕ) → is_one_of t view_types ≡ true → is_one_of t (61 ∷ view_types) ≡ true
  later t e = among (λ u. is_one_of u (61 ∷ view_types)) t view_types refl e

  views-rest : (bs past : List Body) → inside_in set past ≡ false → is_one_of (last_in set past) (61 ∷ view_types) ≡ true → every_of set view_types bs ≡ true
      → GoodTo (NotBehind50 set) set past bs → Rest set Nothing false (last_in set past) bs
  views-rest [] past outside-is last views good = views-end (last_in set past) last good
  views-rest (b ∷ bs) past outside-is last views good =
      let tests = both (of set view_types b) (every_of set view_types bs) views in
      let closed = closed-still set past b outside-is tests.0 in
      let others = views-rest bs (b ∷ past) closed (later (type_of set b) tests.0) tests.1 good.rest in
      (of-table (Kept set Nothing false b bs) (last_in set past) (type_of set b) view_lines (views-kept set Nothing b bs)
      (in-views set past b outside-is tests.0 good.first)).before refl (rw (after-closed (type_of set b) tests.0) others)
    where
      after-closed : (t : ℕ) → is_one_of t view_types ≡ true → open_after false t ≡ false
      after-closed t v =
          rw (none_of t 20 refl v, none_of t 70 refl v)

  -- a run, of the types of its places
  pub record Shaped (bs : List Body) : Type 0 where
    pub content : Content
    pub written_out : content_then content [] ≡ bs
    pub typed : TypedContent set content

  bundle-whole : (b : Body) (bs : List Body) → OfType set 20 b → Items set Nothing bs → Shaped (b ∷ bs)
  bundle-whole b bs k (then is _ hi (then c r hc e)) =
      record {
        content = bundled (record { header = b; items = is; control = c });
        written_out = rw e refl;
        typed = record { header = k; items = hi; control = hc };
      }

  credit-whole : (b : Body) (bs : List Body) → OfType set 61 b → Views set Nothing bs → Shaped (b ∷ bs)
  credit-whole b bs k (then vs r hv e) =
      record { content = direct (record { detail = b; views = vs }); written_out = rw e refl; typed = record { detail = k; views = hv } }

  pub run-shape : (header : Body) (bs : List Body) → OfType set 10 header → is_run set bs ≡ true → GoodTo (NotBehind50 set) set (header ∷ []) bs
      → Shaped bs
  run-shape header [] k is good = refuted false refl is
  run-shape header (b ∷ bs) k is good = cases (eqb (type_of set b) 20) refl is
    where
      cases : (c : Bool) → eqb (type_of set b) 20 ≡ c → cond c (ends_at70 set bs) (eqb (type_of set b) 61 && every_of set view_types bs) ≡ true → Shaped (b ∷ bs)
      cases true e is =
          let t = eqb-true (type_of set b) 20 e in
          bundle-whole b bs t (rw t at (bundle-rest (NotBehind50 set) bs (b ∷ header ∷ []) (rw e refl) is good.rest))
      cases false e is =
          let tests = both (eqb (type_of set b) 61) (every_of set view_types bs) is in
          let t = eqb-true (type_of set b) 61 tests.0 in
          credit-whole b bs t (rw t at (views-rest bs (b ∷ header ∷ []) (rw (t, k) refl) (rw t refl) tests.1 good.rest))

  -- no 90 stands in a run, as far as it is good
  bundle-stays : (bs past : List Body) → inside_in set past ≡ true → ends_at70 set bs ≡ true → eqb (last_in set past) 90 ≡ false → Stays set past bs
  bundle-stays [] past inside_is ends last = tt
  bundle-stays (b ∷ []) past inside_is ends last = (last, λ g. tt)
  bundle-stays (b ∷ c ∷ bs) past inside_is ends last =
      let tests = both (not_of set (20 ∷ 70 ∷ []) b) (ends_at70 set (c ∷ bs)) ends in (
        last,
        λ g. bundle-stays (c ∷ bs) (b ∷ past) (open-still set past b inside_is (neither (type_of set b) tests.0)) tests.1 (no-90 set past b inside_is g),
      )

  views-stay : (bs past : List Body) → every_of set view_types bs ≡ true → eqb (last_in set past) 90 ≡ false → Stays set past bs
  views-stay [] past views last = tt
  views-stay (b ∷ bs) past views last =
      let tests = both (of set view_types b) (every_of set view_types bs) views in
      (last, λ g. views-stay bs (b ∷ past) tests.1 (none_of (type_of set b) 90 refl tests.0))

  pub run-stays : (header : Body) (bs : List Body) → OfType set 10 header → is_run set bs ≡ true → Stays set (header ∷ []) bs
  run-stays header [] k is = tt
  run-stays header (b ∷ bs) k is = (rw k refl, λ g. cases (eqb (type_of set b) 20) refl is)
    where
      cases : (c : Bool) → eqb (type_of set b) 20 ≡ c → cond c (ends_at70 set bs) (eqb (type_of set b) 61 && every_of set view_types bs) ≡ true
          → Stays set (b ∷ header ∷ []) bs
      cases true e is = bundle-stays bs (b ∷ header ∷ []) (rw e refl) is (rw (eqb-true (type_of set b) 20 e) refl)
      cases false e is =
          let tests = both (eqb (type_of set b) 61) (every_of set view_types bs) is in
          views-stay bs (b ∷ header ∷ []) tests.1 (rw (eqb-true (type_of set b) 61 tests.0) refl)
