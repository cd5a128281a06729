-- Items in the order of their use, with one more or one less among them.
use Rattle.std.proofs.Common.{◌≡◌, ℕ, ◌+◌, ◌-◌, ◌<◌, ◌⊎◌, Bool, true, false, cond, not, ◌||◌, List, [], ◌∷◌, ◌++◌, length, Option, Some, None, refl, sym, ap, ◌∙◌, subst, inl, inr, arith}
use Rattle.std.specs.Prelude as prelude
use Rattle.std.specs.Option.{option_map_or}
use Rattle.std.specs.List.{filter}
use Rattle.std.proofs.lemmas.Bool.{both_ways, false_from_ne_true}
use Rattle.std.proofs.lemmas.Option.{none-some, same_Some}
use Rattle.coda_fid.specs.declared.fid.Fid.{Fid}
use Rattle.coda_fid.specs.Fid.{same_fid}
use Rattle.coda_fid.proofs.Fids.{same_fid_is, same_fid_refl}
use Rattle.coda_walk.specs.declared.item.Item.{Item}
use Rattle.coda_walk.specs.declared.rank.Standing.{Standing}
use Rattle.coda_walk.specs.Going.{blocks_of, is_under, is_listed, without}
use Rattle.coda_walk.specs.Laws.{Among, left}
use Rattle.coda_walk.specs.Planning.{item_at}
use Rattle.coda_walk.specs.Queue.{used_at, under_count, one_under, with_item, Rises, FitsBetween, AreQueued, AreKeyed}
use Rattle.coda_walk.proofs.Lists.{from_filter}
use Rattle.coda_walk.proofs.Freed.{turned}

-- ---- the item of an object

pub found_among : (items : List Item) (f : Fid) (i : Item) → item_at items f ≡ Some i → Among i items × (i.fid ≡ f)
found_among [] f i h = absurd (none-some i h)
found_among (j ∷ items) f i h = (elim (same_fid j.fid f) as (λ b. same_fid j.fid f ≡ b → cond b (Some j) (item_at items f) ≡ Some i → Among i (j ∷ items) × (i.fid ≡ f)) [
  | true ↦ λ t k. (inl (same_Some j i k), ap (λ (x : Item). x.fid) (sym (same_Some j i k)) ∙ same_fid_is j.fid f t)
  | false ↦ λ t k. let r = found_among items f i k in (inr r.0, r.1)
]) refl h

pub none_among : (items : List Item) (f : Fid) (i : Item) → item_at items f ≡ None → Among i items → same_fid i.fid f ≡ false
none_among [] f i h a = absurd a
none_among (j ∷ items) f i h a = (elim (same_fid j.fid f) as (λ b. same_fid j.fid f ≡ b → cond b (Some j) (item_at items f) ≡ None → same_fid i.fid f ≡ false) [
  | true ↦ λ t k. absurd (none-some j (sym k))
  | false ↦ λ t k. (elim a [
    | inl same ↦ ap (λ (x : Item). same_fid x.fid f) (sym same) ∙ t
    | inr later ↦ none_among items f i k later
  ])
]) refl h

pub among_found : (items : List Item) (f : Fid) → item_at items f ≡ None → without f items ≡ items
among_found [] f h = refl
among_found (j ∷ items) f h = (elim (same_fid j.fid f) as (λ b. cond b (Some j) (item_at items f) ≡ None → cond (not b) (j ∷ without f items) (without f items) ≡ j ∷ items) [
  | true ↦ λ k. absurd (none-some j (sym k))
  | false ↦ λ k. ap (λ l. j ∷ l) (among_found items f k)
]) h

pub item_without : (items : List Item) (f g : Fid) → item_at (without f items) g ≡ cond (same_fid g f) None (item_at items g)
item_without [] f g = elim (same_fid g f) as (λ b. None ≡ cond {A = Option Item} b None None) [ true ↦ refl | false ↦ refl ]
item_without (j ∷ items) f g = (elim (same_fid j.fid f) as (λ b. same_fid j.fid f ≡ b → item_at (cond (not b) (j ∷ without f items) (without f items)) g ≡ cond (same_fid g f) None (cond (same_fid j.fid g) (Some j) (item_at items g))) [
  | true ↦ λ t. item_without items f g ∙ (elim (same_fid g f) as (λ b. same_fid g f ≡ b → cond b None (item_at items g) ≡ cond b None (cond (same_fid j.fid g) (Some j) (item_at items g))) [
    | true ↦ λ _. refl
    | false ↦ λ d. ap (λ b. cond b (Some j) (item_at items g)) (sym (ap (λ x. same_fid x g) (same_fid_is j.fid f t) ∙ turned g f d))
  ]) refl
  | false ↦ λ t. (elim (same_fid j.fid g) as (λ b. same_fid j.fid g ≡ b → cond b (Some j) (item_at (without f items) g) ≡ cond (same_fid g f) None (cond b (Some j) (item_at items g))) [
    | true ↦ λ d. ap (λ b. cond b None (Some j)) (sym (ap (λ x. same_fid x f) (sym (same_fid_is j.fid g d)) ∙ t))
    | false ↦ λ d. item_without items f g
  ]) refl
]) refl

pub item_left : (gone : List Fid) (items : List Item) (g : Fid) → item_at (left gone items) g ≡ cond (is_listed gone g) None (item_at items g)
item_left [] items g = refl
item_left (f ∷ gone) items g = item_left gone (without f items) g ∙ ap (λ o. cond (is_listed gone g) None o) (item_without items f g) ∙ (elim (same_fid g f) as (λ b. same_fid g f ≡ b → cond (is_listed gone g) None (cond b None (item_at items g)) ≡ cond (same_fid f g || is_listed gone g) None (item_at items g)) [
  | true ↦ λ t. both (is_listed gone g) ∙ ap (λ b. cond (b || is_listed gone g) None (item_at items g)) (sym (ap (λ x. same_fid f x) (same_fid_is g f t) ∙ same_fid_refl f))
  | false ↦ λ t. ap (λ b. cond (b || is_listed gone g) None (item_at items g)) (sym (turned g f t))
]) refl
  where
    both : (b : Bool) → cond {A = Option Item} b None None ≡ None
    both true = refl
    both false = refl

-- ---- the order

pub rises_without : (used used' : Fid → ℕ) (f : Fid) (items : List Item) → ((j : Item) → Among j items → same_fid j.fid f ≡ false → used j.fid ≡ used' j.fid) → Rises used items → Rises used' (without f items)
rises_without used used' f [] same rises = tt
rises_without used used' f (i ∷ items) same rises =
    let rest = rises_without used used' f items (λ j a. same j (inr a)) rises.1 in
    (elim (same_fid i.fid f) as (λ b. same_fid i.fid f ≡ b → Rises used' (cond (not b) (i ∷ without f items) (without f items))) [
      | true ↦ λ t. rest
      | false ↦ λ t. (λ j a. step t j a, rest)
    ]) refl
  where
    step : same_fid i.fid f ≡ false → (j : Item) → Among j (without f items) → used' i.fid < used' j.fid
    step t j a =
        let from = from_filter (λ k. not (same_fid k.fid f)) items j a in
        let apart : same_fid j.fid f ≡ false = false_from_ne_true _ (λ h. both_ways _ (ap not h) from.1) in
        subst (λ n. n < used' j.fid) (same i (inl refl) t) (subst (λ n. used i.fid < n) (same j (inr from.0) apart) (rises.0 j from.0))

pub rises_mid : (used used' : Fid → ℕ) (front : List Item) (i : Item) (back : List Item) → ((j : Item) → Among j (front ++ back) → used j.fid ≡ used' j.fid) → FitsBetween used front back (used' i.fid) → Rises used (front ++ back) → Rises used' (front ++ i ∷ back)
rises_mid used used' [] i back same fits rises = ((λ j a. subst (λ n. used' i.fid < n) (same j a) (fits.sooner j a)), alike back same rises)
  where
    alike : (l : List Item) → ((j : Item) → Among j l → used j.fid ≡ used' j.fid) → Rises used l → Rises used' l
    alike [] s r = tt
    alike (k ∷ l) s r = ((λ j a. subst (λ n. n < used' j.fid) (s k (inl refl)) (subst (λ n. used k.fid < n) (s j (inr a)) (r.0 j a))), alike l (λ j a. s j (inr a)) r.1)
rises_mid used used' (k ∷ front) i back same fits rises = (first, rises_mid used used' front i back (λ j a. same j (inr a)) (record { later = λ j a. fits.later j (inr a); sooner = fits.sooner }) rises.1)
  where
    either : (l : List Item) (j : Item) → Among j (l ++ i ∷ back) → (j ≡ i) ⊎ Among j (l ++ back)
    either [] j (inl same) = inl (sym same)
    either [] j (inr a) = inr a
    either (m ∷ l) j (inl same) = inr (inl same)
    either (m ∷ l) j (inr a) = elim (either l j a) [ inl e ↦ inl e | inr b ↦ inr (inr b) ]

    first : (j : Item) → Among j (front ++ i ∷ back) → used' k.fid < used' j.fid
    first j a = elim (either front j a) [
      | inl e ↦ subst (λ (x : Item). used' k.fid < used' x.fid) (sym e) (subst (λ n. n < used' i.fid) (same k (inl refl)) (fits.later k (inl refl)))
      | inr b ↦ subst (λ n. n < used' j.fid) (same k (inl refl)) (subst (λ n. used k.fid < n) (same j (inr b)) (rises.0 j b))
    ]

-- the item of an object, and what is before and behind it
pub record Parts (used : Fid → ℕ) (items : List Item) (i : Item) : Type 0 where
  pub front : List Item
  pub back : List Item
  pub all : items ≡ front ++ i ∷ back
  pub others : without i.fid items ≡ front ++ back
  pub fits : FitsBetween used front back (used i.fid)
  pub changed : (k : Item) → k.fid ≡ i.fid → with_item k items ≡ front ++ k ∷ back

pub parts : (used : Fid → ℕ) (items : List Item) (f : Fid) (i : Item) → Rises used items → item_at items f ≡ Some i → Parts used items i
parts used [] f i rises at = absurd (none-some i at)
parts used (j ∷ items) f i rises at = (elim (same_fid j.fid f) as (λ b. same_fid j.fid f ≡ b → cond b (Some j) (item_at items f) ≡ Some i → Parts used (j ∷ items) i) [
  | true ↦ λ t k. subst (λ x. Parts used (j ∷ items) x) (same_Some j i k) (record {
    front = [];
    back = items;
    all = refl;
    others = ap (λ b. cond (not b) (j ∷ without j.fid items) (without j.fid items)) (same_fid_refl j.fid) ∙ apart items (λ x a. later x a);
    fits = record { later = λ x a. absurd a; sooner = rises.0 };
    changed = λ k own. ap (λ b. cond b k j ∷ with_item k items) (ap (λ g. same_fid j.fid g) own ∙ same_fid_refl j.fid) ∙ ap (λ l. k ∷ l) (unchanged k items (λ x a. ap (λ g. same_fid x.fid g) own ∙ later x a));
  })
  | false ↦ λ t k.
      let rest = parts used items f i rises.1 k in
      let own = (found_among items f i k).1 in
      let other : same_fid j.fid i.fid ≡ false = ap (λ g. same_fid j.fid g) own ∙ t in
      record {
        front = j ∷ rest.front;
        back = rest.back;
        all = ap (λ l. j ∷ l) rest.all;
        others = ap (λ b. cond (not b) (j ∷ without i.fid items) (without i.fid items)) other ∙ ap (λ l. j ∷ l) rest.others;
        fits = record {
          later = λ x a. elim a [
            | inl same ↦ subst (λ (y : Item). used y.fid < used i.fid) same (rises.0 i (found_among items f i k).0)
            | inr b ↦ rest.fits.later x b
          ];
          sooner = rest.fits.sooner;
        };
        changed = λ k own. ap (λ b. cond b k j ∷ with_item k items) (ap (λ g. same_fid j.fid g) own ∙ other) ∙ ap (λ l. j ∷ l) (rest.changed k own);
      }
]) refl at
  where
    later : (x : Item) → Among x items → same_fid x.fid j.fid ≡ false
    later x a = false_from_ne_true _ (λ t. let less = rises.0 x a in let same = ap used (same_fid_is x.fid j.fid t) in omega (arith, less, same))

    apart : (l : List Item) → ((x : Item) → Among x l → same_fid x.fid j.fid ≡ false) → without j.fid l ≡ l
    apart [] h = refl
    apart (x ∷ l) h = ap (λ b. cond (not b) (x ∷ without j.fid l) (without j.fid l)) (h x (inl refl)) ∙ ap (λ m. x ∷ m) (apart l (λ y a. h y (inr a)))

    unchanged : (k : Item) (l : List Item) → ((x : Item) → Among x l → same_fid x.fid k.fid ≡ false) → with_item k l ≡ l
    unchanged k [] h = refl
    unchanged k (x ∷ l) h = ap (λ b. cond b k x ∷ with_item k l) (h x (inl refl)) ∙ ap (λ m. x ∷ m) (unchanged k l (λ y a. h y (inr a)))

-- ---- sums

pub blocks_mid : (front : List Item) (i : Item) (back : List Item) → blocks_of (front ++ i ∷ back) ≡ blocks_of (front ++ back) + i.blocks
blocks_mid [] i back = omega arith
blocks_mid (j ∷ front) i back = let rest = blocks_mid front i back in omega (arith, rest)

pub count_mid : (p : Fid) (front : List Item) (i : Item) (back : List Item) → under_count p (front ++ i ∷ back) ≡ under_count p (front ++ back) + one_under i.parent p
count_mid p [] i back = elim (is_under p i) as (λ b. length (cond b (i ∷ filter (is_under p) back) (filter (is_under p) back)) ≡ length (filter (is_under p) back) + cond {A = ℕ} b 1 0) [
  | true ↦ omega arith
  | false ↦ omega arith
]
count_mid p (j ∷ front) i back =
    let rest = count_mid p front i back in
    elim (is_under p j) as (λ b. length (cond b (j ∷ filter (is_under p) (front ++ i ∷ back)) (filter (is_under p) (front ++ i ∷ back))) ≡ length (cond b (j ∷ filter (is_under p) (front ++ back)) (filter (is_under p) (front ++ back))) + one_under i.parent p) [
      | true ↦ omega (arith, rest)
      | false ↦ rest
    ]

pub item_mid : (front : List Item) (i : Item) (back : List Item) (g : Fid) → item_at (front ++ back) i.fid ≡ None → item_at (front ++ i ∷ back) g ≡ cond (same_fid g i.fid) (Some i) (item_at (front ++ back) g)
item_mid [] i back g none = (elim (same_fid g i.fid) as (λ b. same_fid g i.fid ≡ b → cond (same_fid i.fid g) (Some i) (item_at back g) ≡ cond b (Some i) (item_at back g)) [
  | true ↦ λ t. ap (λ b. cond b (Some i) (item_at back g)) (ap (λ x. same_fid i.fid x) (same_fid_is g i.fid t) ∙ same_fid_refl i.fid)
  | false ↦ λ t. ap (λ b. cond b (Some i) (item_at back g)) (turned g i.fid t)
]) refl
item_mid (j ∷ front) i back g none =
    (elim (same_fid j.fid g) as (λ b. same_fid j.fid g ≡ b → cond b (Some j) (item_at (front ++ i ∷ back) g) ≡ cond (same_fid g i.fid) (Some i) (cond b (Some j) (item_at (front ++ back) g))) [
      | true ↦ λ t. ap (λ b. cond b (Some i) (Some j)) (sym (ap (λ x. same_fid x i.fid) (sym (same_fid_is j.fid g t)) ∙ none_among (j ∷ front ++ back) i.fid j none (inl refl)))
      | false ↦ λ t. item_mid front i back g (rest none)
    ]) refl
  where
    rest : item_at (j ∷ front ++ back) i.fid ≡ None → item_at (front ++ back) i.fid ≡ None
    rest h = ap (λ b. cond b (Some j) (item_at (front ++ back) i.fid)) (sym (none_among (j ∷ front ++ back) i.fid j none (inl refl))) ∙ h

-- ---- a queue

pub keyed : (places : Fid → Option Standing) (children : Fid → ℕ) (clock blocks : ℕ) (items : List Item) → AreQueued places children clock blocks items → AreKeyed places
keyed places children clock blocks items q f s at = (found_among items f s.item (sym (q.placed f) ∙ ap (λ o. prelude.option_map (λ (x : Standing). x.item) o) at)).1

module _ (places places' : Fid → Option Standing) (children children' : Fid → ℕ) (clock : ℕ) where
  used_else : (o : Option Standing) (f : Fid) → ((g : Fid) → places' g ≡ cond (same_fid g f) o (places g)) → (j : Fid) → same_fid j f ≡ false → used_at places j ≡ used_at places' j
  used_else o f sets j apart = ap (λ (p : Option Standing). option_map_or (λ (s : Standing). s.used) p 0) (sym (sets j ∙ ap (λ b. cond b o (places j)) apart))

  -- one is taken out
  pub one_taken : (blocks blocks' : ℕ) (items : List Item) (s : Standing) → AreQueued places children clock blocks items → places s.item.fid ≡ Some s → ((g : Fid) → places' g ≡ cond (same_fid g s.item.fid) None (places g)) →
      ((p : Fid) → children' p ≡ children p - one_under s.item.parent p) → blocks' ≡ blocks - s.item.blocks → AreQueued places' children' clock blocks' (without s.item.fid items)
  one_taken blocks blocks' items s q at sets counts less = record {
    placed = λ g. ap (λ o. prelude.option_map (λ (x : Standing). x.item) o) (sets g) ∙ mapped (same_fid g s.item.fid) (places g) (q.placed g) ∙ sym (item_without items s.item.fid g);
    rises = rises_without (used_at places) (used_at places') s.item.fid items (λ j a apart. used_else None s.item.fid sets j.fid apart) q.rises;
    earlier = λ g d e. earlier_one (same_fid g s.item.fid) g d (sym (sets g) ∙ e);
    counted = λ p.
        let all = q.counted p ∙ ap (under_count p) cut.all ∙ count_mid p cut.front s.item cut.back in
        let one = counts p in
        let rest : children' p ≡ under_count p (cut.front ++ cut.back) = omega (arith, all, one) in
        rest ∙ ap (under_count p) (sym cut.others);
    total =
        let all = q.total ∙ ap blocks_of cut.all ∙ blocks_mid cut.front s.item cut.back in
        let rest : blocks' ≡ blocks_of (cut.front ++ cut.back) = omega (arith, all, less) in
        rest ∙ ap blocks_of (sym cut.others);
  }
    where
      cut : Parts (used_at places) items s.item
      cut = parts (used_at places) items s.item.fid s.item q.rises (sym (q.placed s.item.fid) ∙ ap (λ o. prelude.option_map (λ (x : Standing). x.item) o) at)

      mapped : (b : Bool) (o : Option Standing) {w : Option Item} → prelude.option_map (λ (x : Standing). x.item) o ≡ w → prelude.option_map (λ (x : Standing). x.item) (cond b None o) ≡ cond b None w
      mapped true o e = refl
      mapped false o e = e

      earlier_one : (b : Bool) (g : Fid) (d : Standing) → cond b None (places g) ≡ Some d → d.used < clock
      earlier_one true g d e = absurd (none-some d e)
      earlier_one false g d e = q.earlier g d e

  -- one is put in
  pub one_put : (blocks blocks' : ℕ) (front back : List Item) (s : Standing) → AreQueued places children clock blocks (front ++ back) → FitsBetween (used_at places) front back s.used → places s.item.fid ≡ None → s.used < clock →
      ((g : Fid) → places' g ≡ cond (same_fid g s.item.fid) (Some s) (places g)) → ((p : Fid) → children' p ≡ children p + one_under s.item.parent p) → blocks' ≡ blocks + s.item.blocks →
      AreQueued places' children' clock blocks' (front ++ s.item ∷ back)
  one_put blocks blocks' front back s q fits free early sets counts more = record {
    placed = λ g. ap (λ o. prelude.option_map (λ (x : Standing). x.item) o) (sets g) ∙ mapped (same_fid g s.item.fid) (places g) (q.placed g) ∙ sym (item_mid front s.item back g none);
    rises = rises_mid (used_at places) (used_at places') front s.item back (λ j a. used_else (Some s) s.item.fid sets j.fid (none_among (front ++ back) s.item.fid j none a))
        (subst (FitsBetween (used_at places) front back) (sym own) fits) q.rises;
    earlier = λ g d e. earlier_one (same_fid g s.item.fid) g d (sym (sets g) ∙ e);
    counted = λ p. counts p ∙ ap (λ n. n + one_under s.item.parent p) (q.counted p) ∙ sym (count_mid p front s.item back);
    total = more ∙ ap (λ n. n + s.item.blocks) q.total ∙ sym (blocks_mid front s.item back);
  }
    where
      none : item_at (front ++ back) s.item.fid ≡ None
      none = sym (q.placed s.item.fid) ∙ ap (λ o. prelude.option_map (λ (x : Standing). x.item) o) free

      own : used_at places' s.item.fid ≡ s.used
      own = ap (λ (p : Option Standing). option_map_or (λ (x : Standing). x.used) p 0) (sets s.item.fid ∙ ap (λ b. cond b (Some s) (places s.item.fid)) (same_fid_refl s.item.fid))

      mapped : (b : Bool) (o : Option Standing) {w : Option Item} → prelude.option_map (λ (x : Standing). x.item) o ≡ w → prelude.option_map (λ (x : Standing). x.item) (cond b (Some s) o) ≡ cond b (Some s.item) w
      mapped true o e = refl
      mapped false o e = e

      earlier_one : (b : Bool) (g : Fid) (d : Standing) → cond b (Some s) (places g) ≡ Some d → d.used < clock
      earlier_one true g d e = subst (λ (x : Standing). x.used < clock) (same_Some s d e) early
      earlier_one false g d e = q.earlier g d e
