-- What stands where in a queue whose items one is put among.
use Rattle.std.proofs.Common.{◌≡◌, ◌+◌, ◌<◌, true, false, cond, List, [], ◌∷◌, ◌++◌, Option, Some, None, refl, sym, ap, ◌∙◌, subst, inl, inr, arith, append-nil}
use Rattle.std.specs.Prelude as prelude
use Rattle.std.specs.Option.{option_map_or}
use Rattle.std.proofs.lemmas.Bool.{both_ways}
use Rattle.std.proofs.lemmas.Option.{none-some}
use Rattle.coda_fid.specs.declared.fid.Fid.{Fid}
use Rattle.coda_fid.specs.Fid.{same_fid}
use Rattle.coda_fid.proofs.Fids.{same_fid_refl}
use Rattle.coda_walk.specs.declared.item.Item.{Item}
use Rattle.coda_walk.specs.declared.rank.Standing.{Standing}
use Rattle.coda_walk.specs.declared.queue.Queue.{Queue}
use Rattle.coda_walk.specs.Going.{without}
use Rattle.coda_walk.specs.Laws.{Among}
use Rattle.coda_walk.specs.Planning.{item_at}
use Rattle.coda_walk.specs.Queue.{place_in, used_at, with_item, FitsBetween, IsQueueOf}
use Rattle.coda_walk.proofs.Queued.{none_among, item_without, parts, Parts}

-- where nothing stands no item is, and the other way round
no_place : (o : Option Standing) → prelude.option_map (λ (s : Standing). s.item) o ≡ None → o ≡ None
no_place None e = refl
no_place (Some s) e = absurd (none-some s.item (sym e))

pub absent : (q : Queue) (items : List Item) (f : Fid) → IsQueueOf q items → item_at items f ≡ None → place_in q.places f ≡ None
absent q items f is none = no_place (place_in q.places f) (is.queued.placed f ∙ none)

pub gone_item : (items : List Item) (f : Fid) → item_at (without f items) f ≡ None
gone_item items f = item_without items f f ∙ ap (λ b. cond b None (item_at items f)) (same_fid_refl f)

pub none_at : (q : Queue) (items : List Item) (f : Fid) → IsQueueOf q items → place_in q.places f ≡ None → item_at items f ≡ None
none_at q items f is none = sym (is.queued.placed f) ∙ ap (λ o. prelude.option_map (λ (s : Standing). s.item) o) none

-- all were used before the clock's time
pub before_clock : (q : Queue) (items : List Item) → IsQueueOf q items → FitsBetween (used_at (place_in q.places)) items [] q.clock
before_clock q items is = record { later = λ j a. go j a (place_in q.places j.fid) refl; sooner = λ j a. absurd a }
  where
    go : (j : Item) → Among j items → (o : Option Standing) → place_in q.places j.fid ≡ o → option_map_or (λ (s : Standing). s.used) (place_in q.places j.fid) 0 < q.clock
    go j a None e = absurd (both_ways _ (none_among items j.fid j (none_at q items j.fid is e) a) (same_fid_refl j.fid))
    go j a (Some s) e = subst (λ o. option_map_or (λ (s : Standing). s.used) o 0 < q.clock) (sym e) (is.queued.earlier j.fid s e)

-- the clock goes on
pub ticked : (q : Queue) (items : List Item) → IsQueueOf q items → IsQueueOf (record q { clock = q.clock + 1 }) (items ++ [])
ticked q items is = subst (λ l. IsQueueOf (record q { clock = q.clock + 1 }) l) (sym (append-nil items)) (record {
  queued = record {
    placed = is.queued.placed;
    rises = is.queued.rises;
    earlier = λ f s e. let less = is.queued.earlier f s e in omega (arith, less);
    counted = is.queued.counted;
    total = is.queued.total;
  };
  free = is.free;
})

-- the item at an object that has none is none of the items
pub none_changed : (items : List Item) (k : Item) → item_at items k.fid ≡ None → with_item k items ≡ items
none_changed [] k none = refl
none_changed (j ∷ items) k none = (elim (same_fid j.fid k.fid) as (λ b. cond b (Some j) (item_at items k.fid) ≡ None → (cond b k j ∷ with_item k items) ≡ j ∷ items) [
  | true ↦ λ e. absurd (none-some j (sym e))
  | false ↦ λ e. ap (λ l. j ∷ l) (none_changed items k e)
]) none

-- an item is put where another stood
pub record Room (q old : Queue) (items : List Item) (k : Item) (s : Standing) : Type 0 where
  pub front : List Item
  pub back : List Item
  pub stands : IsQueueOf q (front ++ back)
  pub fits : FitsBetween (used_at (place_in q.places)) front back s.used
  pub early : s.used < q.clock
  pub all : (front ++ k ∷ back) ≡ with_item k items

pub room : (q old : Queue) (items : List Item) (k : Item) (s : Standing) → IsQueueOf old items → place_in old.places k.fid ≡ Some s → s.item.fid ≡ k.fid →
    IsQueueOf q (without s.item.fid items) → ((f : Fid) → same_fid f s.item.fid ≡ false → place_in q.places f ≡ place_in old.places f) → q.clock ≡ old.clock → Room q old items k s
room q old items k s was at own is others clock = record {
  front = cut.front;
  back = cut.back;
  stands = subst (IsQueueOf q) cut.others is;
  fits = record {
    later = λ j a. subst (λ n. n < s.used) (same j (in_first j cut.front cut.back a)) (subst (λ n. used_at (place_in old.places) j.fid < n) used (cut.fits.later j a));
    sooner = λ j a. subst (λ n. s.used < n) (same j (in_second j cut.front cut.back a)) (subst (λ n. n < used_at (place_in old.places) j.fid) used (cut.fits.sooner j a));
  };
  early = subst (λ n. s.used < n) (sym clock) (was.queued.earlier k.fid s at);
  all = sym (cut.changed k (sym own));
}
  where
    cut : Parts (used_at (place_in old.places)) items s.item
    cut = parts (used_at (place_in old.places)) items k.fid s.item was.queued.rises (sym (was.queued.placed k.fid) ∙ ap (λ o. prelude.option_map (λ (x : Standing). x.item) o) at)

    used : used_at (place_in old.places) s.item.fid ≡ s.used
    used = ap (λ o. option_map_or (λ (x : Standing). x.used) o 0) (ap (place_in old.places) own ∙ at)

    in_first : (i : Item) (xs ys : List Item) → Among i xs → Among i (xs ++ ys)
    in_first i [] ys h = absurd h
    in_first i (x ∷ xs) ys (inl same) = inl same
    in_first i (x ∷ xs) ys (inr later) = inr (in_first i xs ys later)

    in_second : (i : Item) (xs ys : List Item) → Among i ys → Among i (xs ++ ys)
    in_second i [] ys h = h
    in_second i (x ∷ xs) ys h = inr (in_second i xs ys h)

    same : (j : Item) → Among j (cut.front ++ cut.back) → used_at (place_in old.places) j.fid ≡ used_at (place_in q.places) j.fid
    same j a = sym (ap (λ o. option_map_or (λ (x : Standing). x.used) o 0) (others j.fid (none_among (cut.front ++ cut.back) s.item.fid j (ap (λ l. item_at l s.item.fid) (sym cut.others) ∙ gone_item items s.item.fid) a)))
