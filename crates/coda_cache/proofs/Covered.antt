-- That each valid copy is kept for its server after each step of a cache.
use Rattle.std.proofs.Common.{◌≡◌, ◌==◌, ℕ, Bool, true, false, cond, ◌&&◌, List, [], ◌∷◌, Option, Some, None, option_map, refl, sym, ap, ◌∙◌, inl, inr}
use Rattle.std.specs.Prelude.{if◌then◌else◌}
use Rattle.std.specs.Option.{option_map_or}
use Rattle.std.specs.FinMap as map
use Rattle.std.proofs.lemmas.Bool.{both_ways, eq-eqb}
use Rattle.std.proofs.lemmas.Option.{none-some}
use Rattle.coda_fid.specs.declared.fid.Fid.{Fid}
use Rattle.coda_fid.specs.Fid.{same_fid}
use Rattle.coda_fid.proofs.Fids.{fids_total, exact_fids, same_fid_refl}
use Rattle.coda_tree.specs.declared.node.Node.{Node}
use Rattle.coda_tree.specs.Slots.{altered}
use Rattle.coda_tree.proofs.Order.{fid_cases, get_here, get_else, gone_here, gone_else}
use Rattle.coda_tree.proofs.Keyed.{not_same, at_altered, off_altered}
use Rattle.coda_walk.specs.Going.{is_listed}
use Rattle.coda_cache.specs.declared.hold.Hold.{Hold}
use Rattle.coda_cache.specs.declared.sources.Sources.{Sources}
use Rattle.coda_cache.specs.Uses.{latest}
use Rattle.coda_cache.specs.State.{CacheState, Holds, source_of, source_held, is_cached}
use Rattle.coda_cache.specs.Steps.{used, put_in, kept_parent, dropped, taken_from, invalidated, not_valid, invalidated_from, valid_but_from, new_node, taken_out, moved_node, taken_below, moved_in, all_dirty, made_dirty, under, mutated, new_hold}
use Rattle.coda_cache.specs.Steps as steps
use Rattle.coda_cache.specs.Indexed.{AreCovered, same_server, is_from, is_of, dirty_of, pinned_of}
use Rattle.coda_cache.proofs.Sourced.{covered_less, covered_same, same_server_is}
use Rattle.coda_cache.proofs.Standing.{altered_at_all}
use Rattle.coda_cache.proofs.Taken.{taken_at}
use Rattle.coda_cache.proofs.Written.{get_each}

-- ---- where copies are from after each change of holds

source_changed : (change : Hold → Hold) → ((hold : Hold) → (change hold).from ≡ hold.from) → (o : Option Hold) → source_held (option_map change o) ≡ source_held o
source_changed change same None = refl
source_changed change same (Some hold) = same hold

pub altered_source : (holds : Holds) (f : Fid) (change : Hold → Hold) → ((hold : Hold) → (change hold).from ≡ hold.from) → (g : Fid) → source_held (map.get (altered holds f change) g) ≡ source_held (map.get holds g)
altered_source holds f change same g = elim (altered_at_all holds f change g) [
  | inl e ↦ ap source_held e
  | inr e ↦ ap source_held e ∙ source_changed change same (map.get holds g)
]

pub dirty_source : (holds : Holds) (fids : List Fid) (g : Fid) → source_held (map.get (all_dirty holds fids) g) ≡ source_held (map.get holds g)
dirty_source holds [] g = refl
dirty_source holds (f ∷ fids) g = dirty_source (altered holds f made_dirty) fids g ∙ altered_source holds f made_dirty (λ _. refl) g

used_source : (c : CacheState) (f g : Fid) → source_of (used c f) g ≡ source_of c g
used_source c f g = elim (is_cached c f) as (λ b. source_of (if b then record c { recency = latest c.recency f } else c) g ≡ source_of c g) [ true ↦ refl | false ↦ refl ]

pinned_source : (c : CacheState) (volume : Option ℕ) (fids : List Fid) (g : Fid) → source_of (pinned_of c volume fids) g ≡ source_of c g
pinned_source c volume fids g = ap source_held (get_each (dirty_of volume fids) c.holds g)
    ∙ source_changed (dirty_of volume fids g) (λ hold. elim (is_of volume g) as (λ b. (cond b (record hold { dirty = is_listed fids g }) hold).from ≡ hold.from) [ true ↦ refl | false ↦ refl ]) (map.get c.holds g)

none_valid : (o : Option Hold) → source_held (option_map not_valid o) ≡ None
none_valid None = refl
none_valid (Some hold) = refl

invalidated_source : (c : CacheState) (f g : Fid) → source_of (invalidated c f) g ≡ cond (same_fid f g) None (source_of c g)
invalidated_source c f g = elim (fid_cases g f) [
  | inl at ↦ ap source_held (ap (map.get (altered c.holds f not_valid)) at ∙ at_altered c.holds f not_valid) ∙ none_valid (map.get c.holds f)
      ∙ sym (ap (λ b. cond b None (source_of c g)) (ap (same_fid f) at ∙ same_fid_refl f))
  | inr apart ↦ ap source_held (off_altered c.holds f not_valid g apart) ∙ sym (ap (λ b. cond b None (source_of c g)) (not_same f g (λ at. apart (sym at))))
]

out_source : (c : CacheState) (f g : Fid) → source_of (steps.without c f) g ≡ cond (same_fid f g) None (source_of c g)
out_source c f g = elim (fid_cases g f) [
  | inl at ↦ ap source_held (ap (map.get (map.remove c.holds f)) at ∙ gone_here fids_total c.holds f)
      ∙ sym (ap (λ b. cond b None (source_of c g)) (ap (same_fid f) at ∙ same_fid_refl f))
  | inr apart ↦ ap source_held (gone_else fids_total exact_fids c.holds f g apart) ∙ sym (ap (λ b. cond b None (source_of c g)) (not_same f g (λ at. apart (sym at))))
]

put_source : (c : CacheState) (f : Fid) (parent : Option Fid) (node : Node) (from : Option ℕ) (g : Fid) → source_of (put_in c f parent node from) g ≡ cond (same_fid f g) from (source_of c g)
put_source c f parent node from g = elim (fid_cases g f) [
  | inl at ↦ ap source_held (ap (map.get (put_in c f parent node from).holds) at ∙ get_here fids_total c.holds f _)
      ∙ sym (ap (λ b. cond b from (source_of c g)) (ap (same_fid f) at ∙ same_fid_refl f))
  | inr apart ↦ ap source_held (get_else fids_total exact_fids c.holds f _ g apart) ∙ sym (ap (λ b. cond b from (source_of c g)) (not_same f g (λ at. apart (sym at))))
]

taken_source : (b : Bool) (o : Option Hold) → source_held (cond b None o) ≡ cond b None (source_held o)
taken_source true o = refl
taken_source false o = refl

pub dropped_source : (c : CacheState) (fids : List Fid) (g : Fid) → source_of (dropped c fids) g ≡ cond (is_listed fids g) None (source_of c g)
dropped_source c fids g = ap source_held (taken_at c.holds fids g) ∙ taken_source (is_listed fids g) (map.get c.holds g)

-- a copy that is still valid is not of the volume and from the server
left_source : (volume server : ℕ) (g : Fid) (listed : Bool) → (listed ≡ true → (g.volume == volume) ≡ true) → (o : Option Hold) (t : ℕ) →
    source_held (option_map (valid_but_from volume server g) o) ≡ Some t → cond (listed && is_from server (source_held o)) None (source_held o) ≡ Some t
left_source volume server g listed among None t e = absurd (none-some t e)
left_source volume server g listed among (Some hold) t e =
    let stays = from_stays ((g.volume == volume) && option_map_or (λ s. s == server) hold.from false) e in
    go listed among hold.from stays.0 stays.1
  where
    from_stays : (b : Bool) → (if b then not_valid hold else hold).from ≡ Some t → (b ≡ false) × (hold.from ≡ Some t)
    from_stays true e = absurd (none-some t e)
    from_stays false e = (refl, e)

    apart : (v : Bool) (s : ℕ) → v ≡ true → (v && (s == server)) ≡ false → same_server server s ≡ false
    apart v s of free = (elim (same_server server s) as (λ b. same_server server s ≡ b → b ≡ false) [
      | true ↦ λ same. absurd (both_ways _ (sym (ap (λ x. x && (s == server)) of) ∙ free) (eq-eqb s server (sym (same_server_is server s same))))
      | false ↦ λ _. refl
    ]) refl

    go : (l : Bool) → (l ≡ true → (g.volume == volume) ≡ true) → (from : Option ℕ) → ((g.volume == volume) && option_map_or (λ s. s == server) from false) ≡ false → from ≡ Some t → cond (l && is_from server from) None from ≡ Some t
    go l among None free is = absurd (none-some t is)
    go true among (Some s) free is = ap (λ b. cond b None (Some s)) (apart (g.volume == volume) s (among refl) free) ∙ is
    go false among (Some s) free is = is

-- ---- what is covered after each step

module _ (s : Sources) (c n : CacheState) where
  covered_by : (m : CacheState) (p : Fid → Option ℕ) → n ≡ m → ((g : Fid) → source_of m g ≡ p g) → AreCovered s p → AreCovered s (source_of n)
  covered_by m p is same h = covered_same s p (source_of n) (λ g. ap (λ (x : CacheState). source_of x g) is ∙ same g) h

  pub covered_used : (f : Fid) → n ≡ used c f → AreCovered s (source_of c) → AreCovered s (source_of n)
  covered_used f is h = covered_by (used c f) (source_of c) is (used_source c f) h

  pub covered_pinned : (volume : Option ℕ) (fids : List Fid) → n ≡ pinned_of c volume fids → AreCovered s (source_of c) → AreCovered s (source_of n)
  covered_pinned volume fids is h = covered_by (pinned_of c volume fids) (source_of c) is (pinned_source c volume fids) h

  pub covered_invalidated : (f : Fid) → n ≡ invalidated c f → AreCovered s (λ g. cond (same_fid f g) None (source_of c g)) → AreCovered s (source_of n)
  covered_invalidated f is h = covered_by (invalidated c f) _ is (invalidated_source c f) h

  pub covered_out : (f : Fid) → n ≡ steps.without c f → AreCovered s (λ g. cond (same_fid f g) None (source_of c g)) → AreCovered s (source_of n)
  covered_out f is h = covered_by (steps.without c f) _ is (out_source c f) h

  pub covered_dropped : (fids : List Fid) → n ≡ dropped c fids → AreCovered s (λ g. cond (is_listed fids g) None (source_of c g)) → AreCovered s (source_of n)
  covered_dropped fids is h = covered_by (dropped c fids) _ is (dropped_source c fids) h

  pub covered_put : (f : Fid) (parent : Option Fid) (node : Node) (from : Option ℕ) → n ≡ put_in c f parent node from → AreCovered s (λ g. cond (same_fid f g) from (source_of c g)) → AreCovered s (source_of n)
  covered_put f parent node from is h = covered_by (put_in c f parent node from) _ is (put_source c f parent node from) h

  -- those of a volume that are from a server are no longer valid
  pub covered_left : (volume server : ℕ) (fids : List Fid) → n ≡ invalidated_from c volume server → ((f : Fid) → is_listed fids f ≡ true → (f.volume == volume) ≡ true) →
      AreCovered s (λ g. cond (is_listed fids g && is_from server (source_of c g)) None (source_of c g)) → AreCovered s (source_of n)
  covered_left volume server fids is among h = covered_less s _ (source_of n)
      (λ g t e. left_source volume server g (is_listed fids g) (among g) (map.get c.holds g) t (sym (ap (λ (x : CacheState). source_of x g) is ∙ ap source_held (get_each (valid_but_from volume server) c.holds g)) ∙ e)) h
