-- Every figure of the history that the reader carries along.
use Rattle.std.specs.Prelude.{ℕ, ◌+◌, ◌<◌, true, false, ◌||◌, cond, List, map, eqb, length}
use Rattle.text.specs.declared.character_set.CharacterSet.{CharacterSet}
use Rattle.measure.specs.Measures.{cents, items, records, no_sums, together, capped, capped_sums, Small}
use Rattle.order.specs.MayFollow.{is_check_or_return, is_item, is_addendum, last_of, is_open, item_type_in_bundle, newest_item_type}
use Rattle.standing.specs.History.{Entry, one, adds, micr_of, stated_by, indicator_in, signature_in, sum_since, sums_since, at_newest, never, is, is_item_entry, count_since, is_bofd_addendum, is_endorser_addendum}
use Rattle.standing.specs.declared.Standing.{Standing}

unfoldable pub standing : CharacterSet → List ℕ → List Entry → Standing
standing set file past =
    record {
      last = last_of (map (λ (r : Entry). r.type) past);
      inside = is_open (map (λ (r : Entry). r.type) past);
      present = item_type_in_bundle (map (λ (r : Entry). r.type) past);
      holder = newest_item_type (map (λ (r : Entry). r.type) past);
      records = records (length past);
      letters = count_since never (λ t. eqb t 10) past;
      bundles = count_since never (λ t. eqb t 20) past;
      opened = count_since (is 10) (λ t. eqb t 20) past;
      items = items (count_since never is_item past);
      ordinal = count_since (is 20) is_item past;
      whole = sums_since set never file past;
      letter = sums_since set (is 10) file past;
      bundle = sums_since set (is 20) file past;
      micr = cents (sum_since (is 20) (λ r. micr_of set file r.type r.offset) past);
      addenda = count_since is_item_entry is_addendum past;
      bofd = count_since is_item_entry is_bofd_addendum past;
      endorser = count_since is_item_entry is_endorser_addendum past;
      shown = count_since is_item_entry (λ t. eqb t 50) past;
      stated = at_newest is_item_entry (λ r. stated_by set file r.type r.offset) past;
      item = at_newest is_item_entry (λ r. r.offset) past;
      header = at_newest (is 20) (λ r. r.offset) past;
      heading = at_newest (is 10) (λ r. r.offset) past;
      indicator = at_newest (is 10) (λ r. indicator_in set file r.offset) past;
      signature = at_newest (is 50) (λ r. signature_in set file r.offset) past;
    }

-- How one record more, of a type and at an offset, moves the figures on: `standing` of that record and those before it (proofs/Laws.antt).
unfoldable pub onward : CharacterSet → List ℕ → Standing → ℕ → ℕ → Standing
onward set file s t offset =
    record {
      last = t;
      inside = cond (eqb t 20) true (cond (eqb t 70) false s.inside);
      present = cond (eqb t 20) 0 (cond (is_check_or_return t) t s.present);
      holder = cond (eqb t 10 || (eqb t 20 || eqb t 70)) 0 (cond (is_item t) t s.holder);
      records = records (s.records.0 + 1);
      letters = one (eqb t 10) + s.letters;
      bundles = one (eqb t 20) + s.bundles;
      opened = cond (eqb t 10) 0 (one (eqb t 20) + s.opened);
      items = items (one (is_item t) + s.items.0);
      ordinal = cond (eqb t 20) 0 (one (is_item t) + s.ordinal);
      whole = together (adds set file t offset) s.whole;
      letter = cond (eqb t 10) no_sums (together (adds set file t offset) s.letter);
      bundle = cond (eqb t 20) no_sums (together (adds set file t offset) s.bundle);
      micr = cents (cond (eqb t 20) 0 (micr_of set file t offset + s.micr.0));
      addenda = cond (is_item t) 0 (one (is_addendum t) + s.addenda);
      bofd = cond (is_item t) 0 (one (is_bofd_addendum t) + s.bofd);
      endorser = cond (is_item t) 0 (one (is_endorser_addendum t) + s.endorser);
      shown = cond (is_item t) 0 (one (eqb t 50) + s.shown);
      stated = cond (is_item t) (stated_by set file t offset) s.stated;
      item = cond (is_item t) offset s.item;
      header = cond (eqb t 20) offset s.header;
      heading = cond (eqb t 10) offset s.heading;
      indicator = cond (eqb t 10) (indicator_in set file offset) s.indicator;
      signature = cond (eqb t 50) (signature_in set file offset) s.signature;
    }

-- the same figures as the code carries them along, where sums of cents stop at what no control field can state
abbrev pub capped_figures : Standing → Standing
capped_figures s =
    record {
      last = s.last;
      inside = s.inside;
      present = s.present;
      holder = s.holder;
      records = s.records;
      letters = s.letters;
      bundles = s.bundles;
      opened = s.opened;
      items = s.items;
      ordinal = s.ordinal;
      whole = capped_sums s.whole;
      letter = capped_sums s.letter;
      bundle = capped_sums s.bundle;
      micr = cents (capped s.micr.0);
      addenda = s.addenda;
      bofd = s.bofd;
      endorser = s.endorser;
      shown = s.shown;
      stated = s.stated;
      item = s.item;
      header = s.header;
      heading = s.heading;
      indicator = s.indicator;
      signature = s.signature;
    }

-- figures that leave room for those of one record more
pub record Roomy (s : Standing) : Type 0 where
  pub records : s.records.0 < 0x4000_0000_0000_0000
  pub letters : s.letters < 0x4000_0000_0000_0000
  pub bundles : s.bundles < 0x4000_0000_0000_0000
  pub opened : s.opened < 0x4000_0000_0000_0000
  pub items : s.items.0 < 0x4000_0000_0000_0000
  pub ordinal : s.ordinal < 0x4000_0000_0000_0000
  pub whole : Small s.whole
  pub letter : Small s.letter
  pub bundle : Small s.bundle
  pub micr : s.micr.0 < 0x4000_0000_0000_0000
  pub addenda : s.addenda < 0x4000_0000_0000_0000
  pub bofd : s.bofd < 0x4000_0000_0000_0000
  pub endorser : s.endorser < 0x4000_0000_0000_0000
  pub shown : s.shown < 0x4000_0000_0000_0000
