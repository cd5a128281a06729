-- That what is known of a cache ahead of an operation is so once it is made.
use Rattle.std.proofs.Common.{◌≡◌, ◌==◌, ℕ, zero, suc, ◌+◌, ◌-◌, Bool, true, false, cond, not, ◌||◌, ◌&&◌, List, [], ◌∷◌, ◌++◌, Option, Some, None, option_map, is_some, length, take, ◌<◌, refl, sym, ap, ◌∙◌, subst, inl, inr, arith, append-nil}
use Rattle.std.specs.Prelude as prelude
use Rattle.std.specs.Prelude.{if◌then◌else◌, slice_index_or}
use Rattle.std.specs.List.{filter, list_any}
use Rattle.std.specs.List.Sorted.{IsStrictlySortedBy}
use Rattle.std.specs.Option.{option_map_or}
use Rattle.std.specs.BTreeSet as btree
use Rattle.std.specs.FinMap as map
use Rattle.std.proofs.lemmas.Bool.{both_ways}
use Rattle.std.proofs.lemmas.Option.{none-some, same_Some}
use Rattle.coda_fid.specs.declared.fid.Fid.{Fid}
use Rattle.coda_fid.specs.declared.op.Op.{Op}
use Rattle.coda_fid.specs.declared.op.Record.{Record}
use Rattle.coda_fid.specs.declared.op.Op.TheVariants.{Create, Mkdir, Symlink, Store, Setattr, Remove, Rmdir, Rename}
use Rattle.coda_fid.specs.Fid.{fid_cmp, same_fid}
use Rattle.coda_fid.specs.Op.{fids_of, over_fids}
use Rattle.coda_fid.proofs.Fids.{fids_total, exact_fids, same_fid_refl}
use Rattle.coda_tree.specs.Slots.{altered}
use Rattle.coda_tree.proofs.Order.{fid_cases, get_here, get_else}
use Rattle.coda_tree.proofs.Keyed.{not_same, at_altered, off_altered}
use Rattle.coda_certify.specs.Replay.{applied, MayApply}
use Rattle.coda_walk.specs.declared.item.Item.{Item}
use Rattle.coda_walk.specs.Going.{is_listed}
use Rattle.coda_cache.specs.declared.hold.Hold.{Hold}
use Rattle.coda_cache.specs.declared.prospect.Prospect.{Prospect}
use Rattle.coda_cache.specs.Uses.{except, latest}
use Rattle.coda_cache.specs.State.{CacheState, Holds, is_dirty, source_of, source_held, parent_of, parent_held}
use Rattle.coda_cache.specs.Ways.{way_within, way_up, is_below, is_pinned}
use Rattle.coda_cache.specs.Keeping.{Agree}
use Rattle.coda_cache.specs.Room.{operated}
use Rattle.coda_cache.specs.Steps.{new_node, taken_out, moved_node, taken_below, taken_from, except_all, moved_in, all_dirty, made_dirty, under, mutated, new_hold, dirty_in, dirty_where}
use Rattle.coda_cache.specs.Prospects.{will_go, hold_left, hold_made, hold_moved, hold_noted, hold_ahead, parent_ahead, is_dirty_ahead, way_ahead, pins_ahead, fids_made, recency_ahead, Foresees}
use Rattle.coda_cache.proofs.Chosen.{bool_both, both_parts, any_listed, any_from, dirty_used}
use Rattle.coda_cache.proofs.Kept.{listed_where}
use Rattle.coda_cache.proofs.Lens.{len_each, len_dirty, len_moved, len_taken}
use Rattle.coda_cache.proofs.Mutated.{off_applied}
use Rattle.coda_cache.proofs.Operated.{mutated_made, mutated_changed, new_free, agree_made, agree_changed}
use Rattle.coda_cache.proofs.Hashed.{keys_listed}
use Rattle.coda_cache.proofs.Removed.{filter_all, filter_twice, taken_same}
use Rattle.coda_cache.proofs.Summed.{fresh_sorted}
use Rattle.coda_cache.proofs.Taken.{taken_at}
use Rattle.coda_cache.proofs.Uses.{same_turned}
use Rattle.coda_cache.proofs.Written.{get_each, agree_each}

-- ---- holds at a fid

-- a hold, dirty too where its fid is among these
abbrev pub noted : List Fid → Fid → Hold → Hold
noted fids q hold = record hold { dirty = hold.dirty || is_listed fids q }

pub dirty_at : (holds : Holds) (fids : List Fid) (q : Fid) → map.get (all_dirty holds fids) q ≡ option_map (noted fids q) (map.get holds q)
dirty_at holds [] q = same (map.get holds q)
  where
    or_none : (b : Bool) → b ≡ (b || false)
    or_none true = refl
    or_none false = refl

    same : (o : Option Hold) → o ≡ option_map (noted [] q) o
    same None = refl
    same (Some hold) = λ i. Some (record hold { dirty = or_none hold.dirty i })
dirty_at holds (f ∷ fids) q = dirty_at (altered holds f made_dirty) fids q ∙ elim (fid_cases q f) [
  | inl at ↦
      ap (λ x. option_map (noted fids q) (map.get (altered holds f made_dirty) x)) at ∙ ap (option_map (noted fids q)) (at_altered holds f made_dirty)
      ∙ here (map.get holds f) ∙ (λ i. option_map (λ (hold : Hold). record hold { dirty = hold.dirty || ((sym (ap (same_fid f) at ∙ same_fid_refl f)) i || is_listed fids q) }) (map.get holds (sym at i)))
  | inr apart ↦
      ap (option_map (noted fids q)) (off_altered holds f made_dirty q apart)
      ∙ ap (λ b. option_map (λ (hold : Hold). record hold { dirty = hold.dirty || (b || is_listed fids q) }) (map.get holds q)) (sym (not_same f q (λ at. apart (sym at))))
]
  where
    or_true : (b : Bool) → true ≡ (b || true)
    or_true true = refl
    or_true false = refl

    here : (o : Option Hold) → option_map (noted fids q) (option_map made_dirty o) ≡ option_map (λ (hold : Hold). record hold { dirty = hold.dirty || (true || is_listed fids q) }) o
    here None = refl
    here (Some hold) = λ i. Some (record hold { dirty = or_true hold.dirty i })

pub moved_at : (holds : Holds) (moved : Option (Fid × Fid)) (q : Fid) → map.get (moved_in moved holds) q ≡ option_map (hold_moved moved q) (map.get holds q)
moved_at holds None q = same (map.get holds q)
  where
    same : (o : Option Hold) → o ≡ option_map (hold_moved None q) o
    same None = refl
    same (Some hold) = refl
moved_at holds (Some m) q = elim (fid_cases q m.0) [
  | inl at ↦
      ap (map.get (altered holds m.0 (under m.1))) at ∙ at_altered holds m.0 (under m.1)
      ∙ (λ i. option_map (λ (hold : Hold). cond ((sym (ap (same_fid m.0) at ∙ same_fid_refl m.0)) i) (under m.1 hold) hold) (map.get holds (sym at i)))
  | inr apart ↦ off_altered holds m.0 (under m.1) q apart ∙ here (map.get holds q) ∙ ap (λ b. option_map (λ (hold : Hold). cond b (under m.1 hold) hold) (map.get holds q)) (sym (not_same m.0 q (λ at. apart (sym at))))
]
  where
    here : (o : Option Hold) → o ≡ option_map (λ (hold : Hold). cond false (under m.1 hold) hold) o
    here None = refl
    here (Some hold) = refl

pub put_at : (holds : Holds) (f : Fid) (hold : Hold) (q : Fid) → map.get (map.insert holds f hold) q ≡ cond (same_fid f q) (Some hold) (map.get holds q)
put_at holds f hold q = elim (fid_cases q f) [
  | inl at ↦ ap (map.get (map.insert holds f hold)) at ∙ get_here fids_total holds f hold ∙ ap (λ b. cond b (Some hold) (map.get holds q)) (sym (ap (same_fid f) at ∙ same_fid_refl f))
  | inr apart ↦ get_else fids_total exact_fids holds f hold q apart ∙ ap (λ b. cond b (Some hold) (map.get holds q)) (sym (not_same f q (λ at. apart (sym at))))
]

-- ---- the order of use

except_unlisted : (fids : List Fid) (f : Fid) → is_listed fids f ≡ false → except fids f ≡ fids
except_unlisted [] f free = refl
except_unlisted (g ∷ fids) f free = (elim (same_fid g f) as (λ b. (b || is_listed fids f) ≡ false → cond (not b) (g ∷ except fids f) (except fids f) ≡ g ∷ fids) [
  | true ↦ λ h. absurd (both_ways _ h refl)
  | false ↦ λ h. ap (λ l. g ∷ l) (except_unlisted fids f h)
]) free

pub except_is : (recency fids : List Fid) → except_all recency fids ≡ filter (λ g. not (is_listed fids g)) recency
except_is recency [] = sym (filter_all recency)
except_is recency (f ∷ fids) = except_is (except recency f) fids
    ∙ filter_twice (λ g. not (same_fid g f)) (λ g. not (is_listed fids g)) (λ g. not (is_listed (f ∷ fids) g)) recency (λ g. ap (λ b. not b && not (is_listed fids g)) (same_turned g f) ∙ neither (same_fid f g) (is_listed fids g))
  where
    neither : (a b : Bool) → (not a && not b) ≡ not (a || b)
    neither true b = refl
    neither false b = refl

pub filter_alike : (one other : Fid → Bool) (fids : List Fid) → ((g : Fid) → one g ≡ other g) → filter one fids ≡ filter other fids
filter_alike one other [] same = refl
filter_alike one other (g ∷ fids) same = (λ i. cond (same g i) (g ∷ filter_alike one other fids same i) (filter_alike one other fids same i))

-- one fid more is looked at
pub more_left : (test : Fid → Bool) (fids : List Fid) (i : ℕ) (d : Fid) → i < length fids → filter (λ g. not (test g)) (take (suc i) fids) ≡ filter (λ g. not (test g)) (take i fids) ++ cond (test (slice_index_or fids i d)) [] (slice_index_or fids i d ∷ [])
more_left test [] i d h = absurd (omega (arith, h))
more_left test (g ∷ fids) zero d h = elim (test g) as (λ b. cond (not b) (g ∷ []) [] ≡ cond b [] (g ∷ [])) [ true ↦ refl | false ↦ refl ]
more_left test (g ∷ fids) (suc i) d h =
    let rest = more_left test fids i d (omega (arith, h)) in
    elim (test g) as (λ b. cond (not b) (g ∷ filter (λ g. not (test g)) (take (suc i) fids)) (filter (λ g. not (test g)) (take (suc i) fids))
    ≡ cond (not b) (g ∷ filter (λ g. not (test g)) (take i fids)) (filter (λ g. not (test g)) (take i fids)) ++ cond (test (slice_index_or fids i d)) [] (slice_index_or fids i d ∷ [])) [
      | true ↦ rest
      | false ↦ ap (λ l. g ∷ l) rest
    ]

pub map_next : (item : Fid → Item) (fids : List Fid) (i : ℕ) (d : Fid) → i < length fids → prelude.map item (take (suc i) fids) ≡ prelude.map item (take i fids) ++ item (slice_index_or fids i d) ∷ []
map_next item [] i d h = absurd (omega (arith, h))
map_next item (g ∷ fids) zero d h = refl
map_next item (g ∷ fids) (suc i) d h = ap (λ l. item g ∷ l) (map_next item fids i d (omega (arith, h)))

-- ---- what an operation leaves

made_takes : (op : Op) (m : Fid × Fid) → new_node op ≡ Some m → (taken_out op ≡ None) × (moved_node op ≡ None)
made_takes (Create dir name fid mode owner) m is = (refl, refl)
made_takes (Mkdir dir name fid mode owner) m is = (refl, refl)
made_takes (Symlink dir name fid target mode owner) m is = (refl, refl)
made_takes (Store fid pre content) m is = absurd (none-some m is)
made_takes (Setattr fid pre attrs) m is = absurd (none-some m is)
made_takes (Remove dir name fid pre) m is = absurd (none-some m is)
made_takes (Rmdir dir name fid pre) m is = absurd (none-some m is)
made_takes (Rename from_dir from to_dir to fid over) m is = absurd (none-some m is)

moves_mentioned : (op : Op) (m : Fid × Fid) → moved_node op ≡ Some m → is_listed (fids_of op) m.0 ≡ true
moves_mentioned (Create dir name fid mode owner) m is = absurd (none-some m is)
moves_mentioned (Mkdir dir name fid mode owner) m is = absurd (none-some m is)
moves_mentioned (Symlink dir name fid target mode owner) m is = absurd (none-some m is)
moves_mentioned (Store fid pre content) m is = absurd (none-some m is)
moves_mentioned (Setattr fid pre attrs) m is = absurd (none-some m is)
moves_mentioned (Remove dir name fid pre) m is = absurd (none-some m is)
moves_mentioned (Rmdir dir name fid pre) m is = absurd (none-some m is)
moves_mentioned (Rename from_dir from to_dir to fid over) m is =
    ap (λ (x : Fid × Fid). is_listed (from_dir ∷ to_dir ∷ fid ∷ over_fids over) x.0) (sym (same_Some (fid, to_dir) m is)) ∙ third (same_fid from_dir fid) (same_fid to_dir fid) (is_listed (over_fids over) fid) (same_fid_refl fid)
  where
    third : (x y z : Bool) → same_fid fid fid ≡ true → (x || (y || (same_fid fid fid || z))) ≡ true
    third true y z self = refl
    third false true z self = refl
    third false false z self = ap (λ b. b || z) self

module _ (c : CacheState) (client volume : ℕ) (rec : Record) (log : List Fid) (p : Prospect) (a : Agree c.nodes c.holds c.recency) (may : MayApply c.nodes rec.op) (volume_is : p.volume ≡ volume)
    (mentioned : (f : Fid) → btree.contains fid_cmp p.mentioned f ≡ is_listed log f) (touched : (f : Fid) → btree.contains fid_cmp p.touched f ≡ is_listed (fids_of rec.op) f)
    (goes : (f : Fid) → btree.contains fid_cmp p.gone f ≡ is_listed (taken_below c (taken_out rec.op)) f) (rise : IsStrictlySortedBy fid_cmp p.gone.keys) (made_is : p.made ≡ new_node rec.op) (moved_is : p.moved ≡ moved_node rec.op)
    (steps_are : p.steps ≡ (map.len c.holds - length p.gone.keys) + cond (is_some p.made) 1 0) where
  abbrev gone : List Fid
  gone = taken_below c (taken_out rec.op)

  abbrev m : CacheState
  m = mutated c client rec

  abbrev n : CacheState
  n = operated c client volume rec log

  -- a hold, as the operation and the log leave it
  twice : (f : Fid) (hold : Hold) → dirty_in volume log f (noted (fids_of rec.op) f hold) ≡ hold_noted p f hold
  twice f hold = (elim (f.volume == volume) as (λ b. (if b then dirty_where log f (noted (fids_of rec.op) f hold) else noted (fids_of rec.op) f hold) ≡ record hold { dirty = cond b (is_listed log f) (hold.dirty || is_listed (fids_of rec.op) f) }) [ true ↦ refl | false ↦ refl ])
      ∙ (λ i. record hold { dirty = cond (f.volume == sym volume_is i) (sym (mentioned f) i) (hold.dirty || sym (touched f) i) })

  all_twice : (f : Fid) (o : Option Hold) → option_map (dirty_in volume log f) (option_map (noted (fids_of rec.op) f) o) ≡ option_map (hold_noted p f) o
  all_twice f None = refl
  all_twice f (Some hold) = ap Some (twice f hold)

  joined : (f : Fid) (moved : Option (Fid × Fid)) (o : Option Hold) → option_map (hold_noted p f) (option_map (hold_moved moved f) o) ≡ option_map (λ hold. hold_noted p f (hold_moved moved f hold)) o
  joined f moved None = refl
  joined f moved (Some hold) = refl

  unmoved : (f : Fid) (o : Option Hold) → o ≡ option_map (hold_moved None f) o
  unmoved f None = refl
  unmoved f (Some hold) = refl

  -- how nodes are held, by how they are held but for what is noted
  noted_at : (f : Fid) (o : Option Hold) → map.get m.holds f ≡ option_map (noted (fids_of rec.op) f) o → map.get n.holds f ≡ option_map (hold_noted p f) o
  noted_at f o is = get_each (dirty_in volume log) m.holds f ∙ ap (option_map (dirty_in volume log f)) is ∙ all_twice f o

  len_noted : map.len n.holds ≡ map.len m.holds
  len_noted = len_each (dirty_in volume log) m.holds

  -- a node is made
  foreseen_made : (d : Fid × Fid) → new_node rec.op ≡ Some d → Foresees c client rec n p
  foreseen_made d is = record {
    size = ap (λ (x : CacheState). x.size) is_m;
    priorities = ap (λ (x : CacheState). x.priorities) is_m;
    recency = ap (λ (x : CacheState). x.recency) is_m ∙ ap (λ l. l ++ d.1 ∷ []) (except_unlisted c.recency d.1 unused ∙ sym (filter_all c.recency) ∙ filter_alike _ _ c.recency (λ g. sym (ap not (none_goes g))))
        ∙ ap (λ o. filter (λ f. not (will_go p f)) c.recency ++ fids_made o) (sym made_so);
    holds = λ f. sym (noted_at f (cond (same_fid d.1 f) (Some (new_hold d.0)) (map.get c.holds f))
        (ap (λ (x : CacheState). map.get x.holds f) is_m ∙ dirty_at (map.insert c.holds d.1 (new_hold d.0)) (fids_of rec.op) f ∙ ap (option_map (noted (fids_of rec.op) f)) (put_at c.holds d.1 (new_hold d.0) f))
        ∙ ap (option_map (hold_noted p f)) (unmoved f (cond (same_fid d.1 f) (Some (new_hold d.0)) (map.get c.holds f)))
        ∙ joined f None (cond (same_fid d.1 f) (Some (new_hold d.0)) (map.get c.holds f))
        ∙ (λ i. option_map (λ hold. hold_noted p f (hold_moved (sym moved_so i) f hold)) (hold_made (sym made_so i) f (cond (sym (none_goes f) i) None (map.get c.holds f)))));
    steps = steps_are ∙ (λ i. (map.len c.holds - length (no_keys i)) + cond (is_some (made_so i)) 1 0) ∙ one_more
        ∙ sym (len_noted ∙ ap (λ (x : CacheState). map.len x.holds) is_m ∙ len_dirty (map.insert c.holds d.1 (new_hold d.0)) (fids_of rec.op) ∙ map.len-insert fids_total c.holds d.1 (new_hold d.0)
        ∙ ap (λ (o : Option Hold). cond (is_some o) (map.len c.holds) (map.len c.holds + 1)) unheld);
    nodes = λ f. ap (λ (x : CacheState). map.get x.nodes f) is_m ∙ ap (λ b. cond b None (map.get (applied c.nodes client rec) f)) (sym (none_goes f));
    agree = agree_each m.nodes m.holds m.recency (subst (λ (x : CacheState). Agree x.nodes x.holds x.recency) (sym is_m) (agree_made c.nodes c.holds c.recency client rec d.0 d.1 a is)) (dirty_in volume log);
    unused = λ made same. ap (λ (x : Fid × Fid). is_listed c.recency x.1) (same_Some made d (sym same ∙ made_so)) ∙ unused;
    moves = λ made same. absurd (none-some made (sym moved_so ∙ same));
    others = λ f free. off_applied c.nodes client rec f (sym (touched f) ∙ free);
  }
    where
      made_so : p.made ≡ Some d
      made_so = made_is ∙ is

      moved_so : p.moved ≡ None
      moved_so = moved_is ∙ (made_takes rec.op d is).1

      is_m : m ≡ record { size = c.size; nodes = applied c.nodes client rec; holds = all_dirty (map.insert c.holds d.1 (new_hold d.0)) (fids_of rec.op); recency = latest c.recency d.1; priorities = c.priorities }
      is_m = mutated_made c client rec d.0 d.1 is

      none_goes : (f : Fid) → will_go p f ≡ false
      none_goes f = goes f ∙ ap (λ o. is_listed (taken_below c o) f) (made_takes rec.op d is).0

      no_keys : p.gone.keys ≡ []
      no_keys = nothing p.gone.keys (λ f. sym (keys_listed p.gone.keys f) ∙ none_goes f)
        where
          nothing : (keys : List Fid) → ((f : Fid) → is_listed keys f ≡ false) → keys ≡ []
          nothing [] none = refl
          nothing (g ∷ keys) none = absurd (both_ways _ (none g) (ap (λ b. b || is_listed keys g) (same_fid_refl g)))

      unheld : map.get c.holds d.1 ≡ None
      unheld = new_free c.nodes c.holds c.recency rec.op d.0 d.1 a is refl may

      unused : is_listed c.recency d.1 ≡ false
      unused = a.used d.1 ∙ sym (a.held d.1) ∙ ap (λ (o : Option Hold). is_some o) unheld

      one_more : (map.len c.holds - length {A = Fid} []) + 1 ≡ map.len c.holds + 1
      one_more = omega arith

  -- no node is made
  foreseen_changed : new_node rec.op ≡ None → Foresees c client rec n p
  foreseen_changed is = record {
    size = ap (λ (x : CacheState). x.size) is_m;
    priorities = ap (λ (x : CacheState). x.priorities) is_m;
    recency = ap (λ (x : CacheState). x.recency) is_m ∙ except_is c.recency gone ∙ filter_alike _ _ c.recency (λ g. ap not (sym (goes g))) ∙ sym (append-nil (filter (λ f. not (will_go p f)) c.recency))
        ∙ ap (λ o. filter (λ f. not (will_go p f)) c.recency ++ fids_made o) (sym made_so);
    holds = λ f. sym (noted_at f (option_map (hold_moved (moved_node rec.op) f) (cond (is_listed gone f) None (map.get c.holds f)))
        (ap (λ (x : CacheState). map.get x.holds f) is_m ∙ dirty_at (moved_in (moved_node rec.op) (taken_from c.holds gone)) (fids_of rec.op) f
        ∙ ap (option_map (noted (fids_of rec.op) f)) (moved_at (taken_from c.holds gone) (moved_node rec.op) f ∙ ap (option_map (hold_moved (moved_node rec.op) f)) (taken_at c.holds gone f)))
        ∙ joined f (moved_node rec.op) (cond (is_listed gone f) None (map.get c.holds f))
        ∙ (λ i. option_map (λ hold. hold_noted p f (hold_moved (sym moved_is i) f hold)) (hold_made (sym made_so i) f (cond (sym (goes f) i) None (map.get c.holds f)))));
    steps = steps_are ∙ (λ i. (map.len c.holds - length p.gone.keys) + cond (is_some (made_so i)) 1 0) ∙ no_more
        ∙ sym (len_noted ∙ ap (λ (x : CacheState). map.len x.holds) is_m ∙ len_dirty (moved_in (moved_node rec.op) (taken_from c.holds gone)) (fids_of rec.op) ∙ len_moved (taken_from c.holds gone) (moved_node rec.op)
        ∙ ap (λ (h : Holds). map.len h) (taken_same c.holds gone p.gone.keys (λ q. sym (goes q) ∙ keys_listed p.gone.keys q)) ∙ len_taken c.holds p.gone.keys (fresh_sorted p.gone.keys rise) all_held);
    agree = agree_each m.nodes m.holds m.recency (subst (λ (x : CacheState). Agree x.nodes x.holds x.recency) (sym is_m) (agree_changed c client rec a is)) (dirty_in volume log);
    unused = λ made same. absurd (none-some made (sym made_so ∙ same));
    moves = λ moved same. touched moved.0 ∙ moves_mentioned rec.op moved (sym moved_is ∙ same);
    nodes = λ f. ap (λ (x : CacheState). map.get x.nodes f) is_m ∙ taken_at (applied c.nodes client rec) gone f ∙ ap (λ b. cond b None (map.get (applied c.nodes client rec) f)) (sym (goes f));
    others = λ f free. off_applied c.nodes client rec f (sym (touched f) ∙ free);
  }
    where
      made_so : p.made ≡ None
      made_so = made_is ∙ is

      is_m : m ≡ record {
        size = c.size;
        nodes = taken_from (applied c.nodes client rec) gone;
        holds = all_dirty (moved_in (moved_node rec.op) (taken_from c.holds gone)) (fids_of rec.op);
        recency = except_all c.recency gone;
        priorities = c.priorities;
      }
      is_m = mutated_changed c client rec is

      no_more : (map.len c.holds - length p.gone.keys) + 0 ≡ map.len c.holds - length p.gone.keys
      no_more = omega arith

      used_gone : (taken : Option Fid) (q : Fid) → is_listed (taken_below c taken) q ≡ true → is_listed c.recency q ≡ true
      used_gone None q h = absurd (both_ways _ refl h)
      used_gone (Some t) q h = second (is_below c q t) (is_listed c.recency q) (sym (listed_where (λ g. is_below c g t) c.recency q) ∙ h)
        where
          second : (x y : Bool) → (x && y) ≡ true → y ≡ true
          second true y k = k
          second false y k = absurd (both_ways _ refl k)

      all_held : (q : Fid) → is_listed p.gone.keys q ≡ true → is_some (map.get c.holds q) ≡ true
      all_held q h = a.held q ∙ sym (a.used q) ∙ used_gone (taken_out rec.op) q (sym (goes q) ∙ keys_listed p.gone.keys q ∙ h)

  pub foreseen : Foresees c client rec n p
  foreseen = (elim (new_node rec.op) as (λ o. new_node rec.op ≡ o → Foresees c client rec n p) [
    | None ↦ λ is. foreseen_changed is
    | Some d ↦ λ is. foreseen_made d is
  ]) refl

-- ---- the ways up, and who is pinned

module _ (c : CacheState) (client : ℕ) (rec : Record) (n : CacheState) (p : Prospect) (is : Foresees c client rec n p) where
  pub parent_so : (f : Fid) → parent_ahead c p f ≡ parent_of n f
  parent_so f = ap parent_held (is.holds f)

  pub dirty_so : (f : Fid) → is_dirty_ahead c p f ≡ is_dirty n f
  dirty_so f = ap (λ (o : Option Hold). option_map_or (λ (hold : Hold). hold.dirty) o false) (is.holds f)

  way_so : (steps : ℕ) (f : Fid) → way_ahead c p steps f ≡ way_within n steps f
  way_so zero f = refl
  way_so (suc steps) f = ap (λ l. f ∷ l) (ap (λ o. option_map_or (λ d. way_ahead c p steps d) o []) (parent_so f) ∙ on (way_so steps) (parent_of n f))
    where
      on : ((d : Fid) → way_ahead c p steps d ≡ way_within n steps d) → (o : Option Fid) → option_map_or (λ d. way_ahead c p steps d) o [] ≡ option_map_or (λ d. way_within n steps d) o []
      on rest None = refl
      on rest (Some d) = rest d

  pins_so : (f d : Fid) → pins_ahead c p f d ≡ (is_dirty n d && is_below n d f)
  unfolding way_up
  pins_so f d = λ i. dirty_so d i && is_listed ((way_so p.steps d ∙ ap (λ k. way_within n k d) is.steps) i) f

  -- who is pinned is found among all that are dirty
  pub pinned_so : (fids : List Fid) → ((d : Fid) → is_dirty n d ≡ true → is_listed fids d ≡ true) → (f : Fid) → list_any (pins_ahead c p f) fids ≡ is_pinned n f
  pinned_so fids all f = same_any fids ∙ bool_both _ _
      (λ h. let d = any_from (λ d. is_dirty n d && is_below n d f) fids h in any_listed (λ d. is_dirty n d && is_below n d f) n.recency d.0 (dirty_used n is.agree d.0 (both_parts _ _ d.2).0) d.2)
      (λ h. let d = any_from (λ d. is_dirty n d && is_below n d f) n.recency h in any_listed (λ d. is_dirty n d && is_below n d f) fids d.0 (all d.0 (both_parts _ _ d.2).0) d.2)
    where
      same_any : (fids : List Fid) → list_any (pins_ahead c p f) fids ≡ list_any (λ d. is_dirty n d && is_below n d f) fids
      same_any [] = refl
      same_any (d ∷ fids) = λ i. pins_so f d i || same_any fids i

  -- and all that are cached
  pub pinned_all : (fids : List Fid) → fids ≡ recency_ahead c p → (f : Fid) → list_any (pins_ahead c p f) fids ≡ is_pinned n f
  pinned_all fids same f = pinned_so fids (λ d dirty. ap (λ l. is_listed l d) (same ∙ sym is.recency) ∙ dirty_used n is.agree d dirty) f

  -- what a plan has to know of a node
  pub served_so : (f : Fid) → option_map_or (λ (hold : Hold). is_some hold.from || hold.dirty) (hold_ahead c p f) false ≡ (is_some (source_of n f) || is_dirty n f)
  served_so f = ap (λ (o : Option Hold). option_map_or (λ (hold : Hold). is_some hold.from || hold.dirty) o false) (is.holds f) ∙ served (map.get n.holds f)
    where
      served : (o : Option Hold) → option_map_or (λ (hold : Hold). is_some hold.from || hold.dirty) o false ≡ (is_some (source_held o) || option_map_or (λ (hold : Hold). hold.dirty) o false)
      served None = refl
      served (Some hold) = refl

  -- whoever is dirty was so, or is mentioned by the log or the operation, or is made
  pub dirty_among : (marks : List Fid) → ((f : Fid) → is_listed marks f ≡ is_dirty c f) → (d : Fid) → is_dirty n d ≡ true → (is_listed marks d || (btree.contains fid_cmp p.mentioned d || (btree.contains fid_cmp p.touched d || is_listed (fids_made p.made) d))) ≡ true
  dirty_among marks are d dirty = by_made p.made (dirty_so d ∙ dirty)
    where
      held : Option Hold → Bool
      held o = option_map_or (λ (hold : Hold). hold.dirty) o false

      fin : (v m t b l k : Bool) → (b ≡ true → (l || k) ≡ true) → cond v m (b || t) ≡ true → (l || (m || (t || k))) ≡ true
      fin v m t b true k h is = refl
      fin true true t b false k h is = refl
      fin true false t b false k h is = absurd (both_ways _ refl is)
      fin false true t b false k h is = refl
      fin false false true b false k h is = refl
      fin false false false true false k h is = h refl
      fin false false false false false k h is = absurd (both_ways _ refl is)

      same_dirty : (moved : Option (Fid × Fid)) (hold : Hold) → (hold_moved moved d hold).dirty ≡ hold.dirty
      same_dirty None hold = refl
      same_dirty (Some m) hold = elim (same_fid m.0 d) as (λ b. (cond b (under m.1 hold) hold).dirty ≡ hold.dirty) [ true ↦ refl | false ↦ refl ]

      by_hold : (made : List Fid) (o : Option Hold) → (held o ≡ true → (is_listed marks d || is_listed made d) ≡ true) → held (option_map (λ hold. hold_noted p d (hold_moved p.moved d hold)) o) ≡ true →
          (is_listed marks d || (btree.contains fid_cmp p.mentioned d || (btree.contains fid_cmp p.touched d || is_listed made d))) ≡ true
      by_hold made None from is = absurd (both_ways _ refl is)
      by_hold made (Some hold) from is = fin (d.volume == p.volume) (btree.contains fid_cmp p.mentioned d) (btree.contains fid_cmp p.touched d) (hold_moved p.moved d hold).dirty (is_listed marks d) (is_listed made d) (λ h. from (sym (same_dirty p.moved hold) ∙ h)) is

      left : (b : Bool) (o : Option Hold) → held (cond b None o) ≡ true → held o ≡ true
      left true o h = absurd (both_ways _ refl h)
      left false o h = h

      or_first : (x y : Bool) → x ≡ true → (x || y) ≡ true
      or_first true y h = refl
      or_first false y h = absurd (both_ways _ refl h)

      or_second : (x y : Bool) → y ≡ true → (x || y) ≡ true
      or_second true y h = refl
      or_second false y h = h

      was : held (hold_left c p d) ≡ true → is_listed marks d ≡ true
      was h = are d ∙ left (will_go p d) (map.get c.holds d) h

      by_made : (made : Option (Fid × Fid)) → held (option_map (λ hold. hold_noted p d (hold_moved p.moved d hold)) (hold_made made d (hold_left c p d))) ≡ true →
          (is_listed marks d || (btree.contains fid_cmp p.mentioned d || (btree.contains fid_cmp p.touched d || is_listed (fids_made made) d))) ≡ true
      by_made None h = by_hold [] (hold_left c p d) (λ k. or_first _ _ (was k)) h
      by_made (Some m) h = (elim (same_fid m.1 d) as (λ b. same_fid m.1 d ≡ b → held (option_map (λ hold. hold_noted p d (hold_moved p.moved d hold)) (cond b (Some (new_hold m.0)) (hold_left c p d))) ≡ true →
          (is_listed marks d || (btree.contains fid_cmp p.mentioned d || (btree.contains fid_cmp p.touched d || (same_fid m.1 d || false)))) ≡ true) [
            | true ↦ λ e k. by_hold (m.1 ∷ []) (Some (new_hold m.0)) (λ _. or_second (is_listed marks d) (same_fid m.1 d || false) (ap (λ b. b || false) e)) k
            | false ↦ λ e k. by_hold (m.1 ∷ []) (hold_left c p d) (λ h. or_first _ _ (was h)) k
          ]) refl h
