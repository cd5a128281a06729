use Rattle.std.proofs.Common.{◌≡◌, ◌++◌, ◌||◌, Bool, true, false, List, refl, sym, ap, ◌∙◌}
use Rattle.coda_fid.specs.declared.fid.Fid.{Fid}
use Rattle.coda_walk.specs.Going.{is_listed}
use Rattle.coda_cache.specs.Prospects.{fids_made}
use Rattle.coda_cache.proofs.Down.{listed_join}
use Rattle.coda_cache.proofs.Foreseen.{dirty_among}
use Rattle.coda_cache.proofs.Hashed.{keys_listed}
use Rattle.coda_cache.proofs.contents.Contents.dirty_ahead.Goals as goal

joined : (a b k l : List Fid) (f : Fid) → is_listed (((a ++ b) ++ k) ++ l) f ≡ (is_listed a f || (is_listed b f || (is_listed k f || is_listed l f)))
joined a b k l f = listed_join ((a ++ b) ++ k) l f ∙ ap (λ x. x || is_listed l f) (listed_join (a ++ b) k f ∙ ap (λ x. x || is_listed k f) (listed_join a b f)) ∙ turned (is_listed a f) (is_listed b f) (is_listed k f) (is_listed l f)
  where
    turned : (x y z w : Bool) → (((x || y) || z) || w) ≡ (x || (y || (z || w)))
    turned true y z w = refl
    turned false true z w = refl
    turned false false true w = refl
    turned false false false w = refl

pub returns : goal.returns
returns c = λ client rec n is d dirty.
    let p = c.args.prospect.now in
    let marks = c.args.dirty.now.keys in
    let one : c.list_set.new.list.items ≡ marks = c.in_ok-list_set.ensures ∙ ap (λ (l : List Fid). l ++ marks) c.new-fids.ensures.items in
    let two : c.list_set-2.new.list.items ≡ marks ++ p.mentioned.keys = c.in_ok-list_set-2.ensures ∙ ap (λ (l : List Fid). l ++ p.mentioned.keys) one in
    let three : c.list_set-3.new.list.items ≡ (marks ++ p.mentioned.keys) ++ p.touched.keys = c.in_ok-list_set-3.ensures ∙ ap (λ (l : List Fid). l ++ p.touched.keys) two in
    let all : c.list_made.new.list.items ≡ ((marks ++ p.mentioned.keys) ++ p.touched.keys) ++ fids_made p.made = c.in_ok-list_made.ensures ∙ ap (λ (l : List Fid). l ++ fids_made p.made) three in
    ap (λ l. is_listed l d) all ∙ joined marks p.mentioned.keys p.touched.keys (fids_made p.made) d
    ∙ (λ i. is_listed marks d || (sym (keys_listed p.mentioned.keys d) i || (sym (keys_listed p.touched.keys d) i || is_listed (fids_made p.made) d)))
    ∙ dirty_among c.args.self.now client rec n p is marks (λ f. sym (keys_listed marks f) ∙ c.requires f) d dirty
