-- Where there is room beside all that is cached nobody goes for an operation.
use Rattle.std.proofs.Common.{◌≡◌, ℕ, ◌+◌, ◌≤◌, Bool, true, false, cond, not, ◌||◌, List, [], ◌∷◌, ◌++◌, Option, Some, None, is_some, refl, sym, ap, ◌∙◌, subst, arith, append-nil}
use Rattle.std.specs.Prelude as prelude
use Rattle.std.specs.Prelude.{if◌then◌else◌, nat_lt, Ok, Err}
use Rattle.std.specs.List.{filter}
use Rattle.std.specs.List.Sorted.{IsStrictlySortedBy}
use Rattle.std.specs.FinMap as map
use Rattle.std.proofs.lemmas.Bool.{both_ways, le-leb, le-ltb, ltb-false}
use Rattle.coda_fid.specs.declared.fid.Fid.{Fid}
use Rattle.coda_fid.specs.declared.op.Record.{Record}
use Rattle.coda_fid.specs.Fid.{fid_cmp, same_fid}
use Rattle.coda_fid.specs.Op.{fids_of}
use Rattle.coda_fid.proofs.Fids.{same_fid_is}
use Rattle.coda_certify.specs.Replay.{applied, MayApply}
use Rattle.coda_walk.specs.Going.{blocks_of, is_listed, stays, who_goes}
use Rattle.coda_walk.proofs.Departs.{who_fits}
use Rattle.coda_cache.specs.declared.fault.CacheFault.TheVariants.{CacheFull}
use Rattle.coda_cache.specs.declared.prospect.Prospect.{Prospect}
use Rattle.coda_cache.specs.State.{CacheState, blocks_in, blocks_at}
use Rattle.coda_cache.specs.Keeping.{Agree}
use Rattle.coda_cache.specs.Room.{item_of, items_of, pinned_blocks, further_blocks, with_ancestors, operated, evicted_between, evicted_after}
use Rattle.coda_cache.specs.Steps.{new_node, taken_out, moved_node, taken_below, taken_from, except_all, new_hold, moved_in, all_dirty, mutated}
use Rattle.coda_cache.specs.Uses.{latest}
use Rattle.coda_cache.specs.Indexed.{standing_of, standings}
use Rattle.coda_cache.specs.Prospects.{will_go, fids_made, Foresees}
use Rattle.coda_cache.specs.Growing.{growth_of, growth_on, growth_by, growth_by_on}
use Rattle.coda_cache.proofs.Afterwards.{stay_sum}
use Rattle.coda_cache.proofs.Chosen.{no_blocks}
use Rattle.coda_cache.proofs.ChosenAhead.{fresh_ahead, fresh_then, uncached}
use Rattle.coda_cache.proofs.Foreseen.{except_is}
use Rattle.coda_cache.proofs.Hashed.{keys_listed}
use Rattle.coda_cache.proofs.Mutated.{off_applied}
use Rattle.coda_cache.proofs.Operated.{mutated_made, mutated_changed, new_free}
use Rattle.coda_cache.proofs.Sized.{blocks_there}
use Rattle.coda_cache.proofs.Summed.{AreFresh, fresh_sorted, sum_on, sum_within, sum_among}
use Rattle.coda_cache.proofs.Sums.{some_where}
use Rattle.coda_cache.proofs.Taken.{taken_at}

growth_sum : (c n : CacheState) (fids : List Fid) → growth_on c n fids ≡ sum_on (growth_of c n) fids
growth_sum c n [] = refl
growth_sum c n (f ∷ fids) = ap (λ k. growth_of c n f + k) (growth_sum c n fids)

items_sum : (n : CacheState) (fids : List Fid) → blocks_of (prelude.map (item_of n) fids) ≡ sum_on (blocks_at n) fids
items_sum n [] = refl
items_sum n (f ∷ fids) = ap (λ k. blocks_at n f + k) (items_sum n fids)

standings_sum : (c : CacheState) (fids : List Fid) → blocks_of (prelude.map (standing_of c) fids) ≡ sum_on (blocks_at c) fids
standings_sum c [] = refl
standings_sum c (f ∷ fids) = ap (λ k. blocks_at c f + k) (standings_sum c fids)

sum_joined : (weight : Fid → ℕ) (fids more : List Fid) → sum_on weight (fids ++ more) ≡ sum_on weight fids + sum_on weight more
sum_joined weight [] more = omega arith
sum_joined weight (f ∷ fids) more = let rest = sum_joined weight fids more in omega (arith, rest)

sum_fewer : (weight : Fid → ℕ) (test : Fid → Bool) (fids : List Fid) → sum_on weight (filter test fids) ≤ sum_on weight fids
sum_fewer weight test [] = omega arith
sum_fewer weight test (f ∷ fids) =
    let rest = sum_fewer weight test fids in
    elim (test f) as (λ b. sum_on weight (cond b (f ∷ filter test fids) (filter test fids)) ≤ weight f + sum_on weight fids) [
      | true ↦ omega (arith, rest)
      | false ↦ omega (arith, rest)
    ]

-- what the test of room says
pub no_more : (fits : Bool) (size taken more : ℕ) → fits ≡ not (nat_lt size (taken + more)) → fits ≡ true → taken + more ≤ size
no_more fits size taken more is fit = (elim (nat_lt size (taken + more)) as (λ b. nat_lt size (taken + more) ≡ b → not b ≡ true → taken + more ≤ size) [
  | true ↦ λ _ h. absurd (both_ways _ refl h)
  | false ↦ λ e _. ltb-false _ _ e
]) refl (sym is ∙ fit)

-- nobody goes from a cache in which all fits
all_fit : (c n : CacheState) (looked_up : List Fid) → blocks_of (items_of n) ≤ c.size → evicted_between c n looked_up ≡ Ok []
all_fit c n looked_up fits =
    let kept = with_ancestors c looked_up in
    let some = some_where (stays kept) (items_of n) in
    let sum = stay_sum kept (items_of n) in
    ap (λ b. if b then Err (CacheFull (pinned_blocks (items_of n)) (further_blocks kept (items_of n)) c.size) else Ok (who_goes c.size kept (items_of n))) (le-ltb _ _ (omega (arith, fits, some, sum)))
    ∙ ap (λ (l : List Fid). Ok l) (who_fits c.size kept (items_of n) (le-leb _ _ fits))

module _ (c : CacheState) (client : ℕ) (rec : Record) (n : CacheState) (p : Prospect) (is : Foresees c client rec n p) (a : Agree c.nodes c.holds c.recency) (fresh : AreFresh c.recency) (rise : IsStrictlySortedBy fid_cmp p.touched.keys) where
  abbrev keys : List Fid
  keys = p.touched.keys

  -- what isn't mentioned doesn't grow
  no_larger : (g : Fid) → is_listed keys g ≡ false → blocks_at n g ≤ blocks_at c g
  no_larger g free = subst (λ k. k ≤ blocks_at c g) (sym (ap blocks_there (is.nodes g))) (go (will_go p g))
    where
      same : map.get (applied c.nodes client rec) g ≡ map.get c.nodes g
      same = is.others g (keys_listed keys g ∙ free)

      go : (b : Bool) → blocks_there (cond b None (map.get (applied c.nodes client rec) g)) ≤ blocks_at c g
      go true = omega arith
      go false = let at = ap blocks_there same in omega (arith, at)

  grown : (g : Fid) → blocks_at n g ≤ blocks_at c g + cond (is_listed keys g) (growth_of c n g) 0
  grown g = (elim (is_listed keys g) as (λ b. is_listed keys g ≡ b → blocks_at n g ≤ blocks_at c g + cond b (growth_of c n g) 0) [
    | true ↦ λ _. omega arith
    | false ↦ λ free. let less = no_larger g free in omega (arith, less)
  ]) refl

  all_grown : (fids : List Fid) → sum_on (blocks_at n) fids ≤ sum_on (blocks_at c) fids + sum_on (λ g. cond (is_listed keys g) (growth_of c n g) 0) fids
  all_grown [] = omega arith
  all_grown (g ∷ fids) = let rest = all_grown fids in let here = grown g in omega (arith, rest, here)

  none_more : (g : Fid) → is_listed n.recency g ≡ false → growth_of c n g ≡ 0
  none_more g free = let none = uncached c client rec n p is a fresh g free in omega (arith, none)

  made_blocks : (made : Option (Fid × Fid)) → p.made ≡ made → sum_on (blocks_at c) (fids_made made) ≡ 0
  made_blocks None e = refl
  made_blocks (Some m) e = let none = no_blocks c m.1 (sym (a.used m.1) ∙ is.unused m e) in omega (arith, none)

  total : blocks_of (items_of n) ≤ blocks_of (standings c) + growth_on c n keys
  total =
      let items = items_sum n n.recency in
      let before = standings_sum c c.recency in
      let more = all_grown n.recency in
      let growth = growth_sum c n keys ∙ sum_within (growth_of c n) n.recency (fresh_then c client rec n p is a fresh) none_more keys (fresh_sorted keys rise) in
      let fids = ap (sum_on (blocks_at c)) is.recency ∙ sum_joined (blocks_at c) (filter (λ f. not (will_go p f)) c.recency) (fids_made p.made) in
      let less = sum_fewer (blocks_at c) (λ f. not (will_go p f)) c.recency in
      let made = made_blocks p.made refl in
      omega (arith, items, before, more, growth, fids, less, made)

  pub none_goes_after : (looked_up : List Fid) → blocks_of (standings c) + growth_on c n keys ≤ c.size → evicted_between c n looked_up ≡ Ok []
  none_goes_after looked_up room = let all = total in all_fit c n looked_up (omega (arith, all, room))

-- ---- by the growth of what is mentioned alone

module _ (c : CacheState) (client volume : ℕ) (rec : Record) (log : List Fid) (a : Agree c.nodes c.holds c.recency) (fresh : AreFresh c.recency) (may : MayApply c.nodes rec.op)
    (keys : List Fid) (are : (f : Fid) → is_listed keys f ≡ is_listed (fids_of rec.op) f) where
  abbrev n : CacheState
  n = operated c client volume rec log

  abbrev weight : Fid → ℕ
  weight g = blocks_in (applied c.nodes client rec) g

  abbrev more : Fid → ℕ
  more g = cond (is_listed keys g) (growth_by c client rec g) 0

  by_sum : (fids : List Fid) → growth_by_on c client rec fids ≡ sum_on (growth_by c client rec) fids
  by_sum [] = refl
  by_sum (f ∷ fids) = ap (λ k. growth_by c client rec f + k) (by_sum fids)

  -- a node takes no more than before, but for what it grows by
  one_more : (g : Fid) → weight g ≤ blocks_at c g + more g
  one_more g = (elim (is_listed keys g) as (λ b. is_listed keys g ≡ b → weight g ≤ blocks_at c g + cond b (growth_by c client rec g) 0) [
    | true ↦ λ _. omega arith
    | false ↦ λ free. let same = ap blocks_there (off_applied c.nodes client rec g (sym (are g) ∙ free)) in omega (arith, same)
  ]) refl

  all_more : ((g : Fid) → blocks_at n g ≤ weight g) → (fids : List Fid) → sum_on (blocks_at n) fids ≤ sum_on (blocks_at c) fids + sum_on more fids
  all_more low [] = omega arith
  all_more low (g ∷ fids) = let rest = all_more low fids in let here = one_more g in let least = low g in omega (arith, rest, here, least)

  -- where those that are cached before are cached still, or are gone, and others take nothing before
  in_all : (test : Fid → Bool) (new : List Fid) → n.recency ≡ filter test c.recency ++ new → AreFresh (filter test c.recency ++ new) → sum_on (blocks_at c) new ≡ 0 → ((g : Fid) → blocks_at n g ≤ weight g)
      → blocks_of (items_of n) ≤ blocks_of (standings c) + growth_by_on c client rec keys
  in_all test new order once none low =
      let items = items_sum n n.recency in
      let before = standings_sum c c.recency in
      let all = all_more low n.recency in
      let fids = ap (sum_on (blocks_at c)) order ∙ sum_joined (blocks_at c) (filter test c.recency) new in
      let less = sum_fewer (blocks_at c) test c.recency in
      let growth = sum_among (growth_by c client rec) n.recency (subst AreFresh (sym order) once) keys in
      let by = by_sum keys in
      omega (arith, items, before, all, fids, less, none, growth, by)

  -- a node is made
  by_made : (d : Fid × Fid) → new_node rec.op ≡ Some d → blocks_of (items_of n) ≤ blocks_of (standings c) + growth_by_on c client rec keys
  by_made d is = in_all (λ g. not (same_fid g d.1)) (d.1 ∷ []) (ap (λ (x : CacheState). x.recency) made) (fresh_ahead (λ g. not (same_fid g d.1)) c.recency (d.1 ∷ []) fresh (refl, tt) apart)
      (let no = none in omega (arith, no)) (λ g. let same = ap (λ (x : CacheState). blocks_at x g) made in omega (arith, same))
    where
      made : mutated c client rec ≡ record { size = c.size; nodes = applied c.nodes client rec; holds = all_dirty (map.insert c.holds d.1 (new_hold d.0)) (fids_of rec.op); recency = latest c.recency d.1; priorities = c.priorities }
      made = mutated_made c client rec d.0 d.1 is

      unused : is_listed c.recency d.1 ≡ false
      unused = a.used d.1 ∙ sym (a.held d.1) ∙ ap is_some (new_free c.nodes c.holds c.recency rec.op d.0 d.1 a is refl may)

      none : blocks_at c d.1 ≡ 0
      none = no_blocks c d.1 (sym (a.used d.1) ∙ unused)

      apart : (g : Fid) → is_listed c.recency g ≡ true → is_listed (d.1 ∷ []) g ≡ false
      apart g listed = (elim (same_fid d.1 g) as (λ b. same_fid d.1 g ≡ b → (b || false) ≡ false) [
        | true ↦ λ same. absurd (both_ways _ unused (ap (is_listed c.recency) (same_fid_is d.1 g same) ∙ listed))
        | false ↦ λ _. refl
      ]) refl

  -- none is made
  by_changed : new_node rec.op ≡ None → blocks_of (items_of n) ≤ blocks_of (standings c) + growth_by_on c client rec keys
  by_changed is = in_all (λ g. not (is_listed gone g)) [] order (fresh_ahead (λ g. not (is_listed gone g)) c.recency [] fresh tt (λ _ _. refl)) refl low
    where
      gone : List Fid
      gone = taken_below c (taken_out rec.op)

      changed : mutated c client rec ≡ record {
        size = c.size;
        nodes = taken_from (applied c.nodes client rec) gone;
        holds = all_dirty (moved_in (moved_node rec.op) (taken_from c.holds gone)) (fids_of rec.op);
        recency = except_all c.recency gone;
        priorities = c.priorities;
      }
      changed = mutated_changed c client rec is

      order : n.recency ≡ filter (λ g. not (is_listed gone g)) c.recency ++ []
      order = ap (λ (x : CacheState). x.recency) changed ∙ except_is c.recency gone ∙ sym (append-nil _)

      low : (g : Fid) → blocks_at n g ≤ weight g
      low g = subst (λ k. k ≤ weight g) (sym (ap (λ (x : CacheState). blocks_at x g) changed ∙ ap blocks_there (taken_at (applied c.nodes client rec) gone g))) (less (is_listed gone g))
        where
          less : (b : Bool) → blocks_there (cond b None (map.get (applied c.nodes client rec) g)) ≤ weight g
          less true = omega arith
          less false = omega arith

  pub none_goes_surely : (looked_up : List Fid) → blocks_of (standings c) + growth_by_on c client rec keys ≤ c.size → evicted_after c client volume rec log looked_up ≡ Ok []
  unfolding evicted_after
  none_goes_surely looked_up room = (elim (new_node rec.op) as (λ o. new_node rec.op ≡ o → evicted_between c n looked_up ≡ Ok []) [
    | None ↦ λ is. let all = by_changed is in all_fit c n looked_up (omega (arith, all, room))
    | Some d ↦ λ is. let all = by_made d is in all_fit c n looked_up (omega (arith, all, room))
  ]) refl
