-- The ranks of those that may go, as items come, go and are counted.
use Rattle.std.proofs.Common.{◌≡◌, ℕ, ◌-◌, Bool, true, false, cond, not, ◌&&◌, ◌||◌, ◌==◌, Option, Some, None, refl, sym, ap, ◌∙◌, subst, arith}
use Rattle.std.proofs.lemmas.Bool.{both_ways, false_from_ne_true}
use Rattle.std.proofs.lemmas.Option.{same_Some}
use Rattle.coda_fid.specs.declared.fid.Fid.{Fid}
use Rattle.coda_fid.specs.Fid.{same_fid}
use Rattle.coda_fid.proofs.Fids.{same_fid_is, same_fid_refl}
use Rattle.coda_walk.specs.declared.rank.Rank.{Rank}
use Rattle.coda_walk.specs.declared.rank.Standing.{Standing}
use Rattle.coda_walk.specs.Queue.{same_rank, rank_of, may_leave, frees_at, frees, set_at, one_under, AreFree, AreFreeBut, AreKeyed}
use Rattle.coda_walk.proofs.Ranks.{same_rank_is}

-- the rank of what stands at a fid is that of no other
pub other_rank : (places : Fid → Option Standing) (f : Fid) (s : Standing) (r : Rank) → AreKeyed places → places f ≡ Some s → same_fid r.fid.0 f ≡ false → same_rank (rank_of s) r ≡ false
other_rank places f s r keyed at apart = false_from_ne_true _ (λ t.
    both_ways _ apart (subst (λ g. same_fid g f ≡ true) (sym (keyed f s at) ∙ ap (λ (q : Rank). q.fid.0) (same_rank_is (rank_of s) r t)) (same_fid_refl f)))

not_and : (x y : Bool) → (not x && (x && y)) ≡ false
not_and true y = refl
not_and false y = refl

and_none : (x : Bool) → (x && false) ≡ false
and_none true = refl
and_none false = refl

or_none : (x : Bool) → (x || false) ≡ (x && true)
or_none true = refl
or_none false = refl

-- by whether a rank is that of a fid
split : (f : Fid) (r : Rank) (P : Bool → Type 0) → (same_fid r.fid.0 f ≡ true → P true) → (same_fid r.fid.0 f ≡ false → P false) → P (same_fid r.fid.0 f)
split f r P yes_ no_ = (elim (same_fid r.fid.0 f) as (λ b. same_fid r.fid.0 f ≡ b → P b) [ true ↦ yes_ | false ↦ no_ ]) refl

module _ (places : Fid → Option Standing) (children : Fid → ℕ) (free free' : Rank → Bool) (f : Fid) where
  at_f : (r : Rank) (o : Option Standing) → same_fid r.fid.0 f ≡ true → places f ≡ o → frees places children r ≡ frees_at o (children f) r
  at_f r o t at = ap (λ g. frees_at (places g) (children g) r) (same_fid_is r.fid.0 f t) ∙ ap (λ p. frees_at p (children f) r) at

  pub hid : (s : Standing) → AreKeyed places → places f ≡ Some s → AreFree places children free → ((r : Rank) → free' r ≡ (not (same_rank (rank_of s) r) && free r)) → AreFreeBut places children f free'
  hid s keyed at exact less r = less r ∙ ap (λ b. not (same_rank (rank_of s) r) && b) (exact r) ∙ split f r (λ b. (not (same_rank (rank_of s) r) && frees places children r) ≡ (not b && frees places children r))
      (λ t. ap (λ b. not (same_rank (rank_of s) r) && b) (at_f r (Some s) t at) ∙ not_and (same_rank (rank_of s) r) (may_leave (children f) s))
      (λ t. ap (λ b. not b && frees places children r) (other_rank places f s r keyed at t))

  pub hid_none : places f ≡ None → AreFree places children free → AreFreeBut places children f free
  hid_none at exact r = exact r ∙ split f r (λ b. frees places children r ≡ (not b && frees places children r)) (λ t. at_f r None t at) (λ t. refl)

  pub shown : (s : Standing) → AreKeyed places → places f ≡ Some s → may_leave (children f) s ≡ true → AreFreeBut places children f free → ((r : Rank) → free' r ≡ (same_rank (rank_of s) r || free r)) → AreFree places children free'
  shown s keyed at may but more r = more r ∙ ap (λ b. same_rank (rank_of s) r || b) (but r) ∙ split f r (λ b. (same_rank (rank_of s) r || (not b && frees places children r)) ≡ frees places children r)
      (λ t. or_none (same_rank (rank_of s) r) ∙ sym (at_f r (Some s) t at ∙ ap (λ b. same_rank (rank_of s) r && b) may))
      (λ t. ap (λ b. b || frees places children r) (other_rank places f s r keyed at t))

  pub not_shown : (s : Standing) → places f ≡ Some s → may_leave (children f) s ≡ false → AreFreeBut places children f free → AreFree places children free
  not_shown s at may but r = but r ∙ split f r (λ b. (not b && frees places children r) ≡ frees places children r)
      (λ t. sym (at_f r (Some s) t at ∙ ap (λ b. same_rank (rank_of s) r && b) may ∙ and_none (same_rank (rank_of s) r)))
      (λ t. refl)

  pub none_shown : places f ≡ None → AreFreeBut places children f free → AreFree places children free
  none_shown at but r = but r ∙ split f r (λ b. (not b && frees places children r) ≡ frees places children r) (λ t. sym (at_f r None t at)) (λ t. refl)

  module _ (children' : Fid → ℕ) (k : ℕ) (sets : (p : Fid) → children' p ≡ set_at f k children p) where
    same_else : (r : Rank) → same_fid r.fid.0 f ≡ false → frees places children r ≡ frees places children' r
    same_else r t = ap (λ n. frees_at (places r.fid.0) n r) (sym (sets r.fid.0 ∙ ap (λ b. cond b k (children r.fid.0)) t))

    -- where items are under it, it may not go
    pub counted_up : (k == 0) ≡ false → AreFreeBut places children f free → AreFree places children' free
    counted_up some but r = but r ∙ split f r (λ b. (not b && frees places children r) ≡ frees places children' r)
        (λ t. sym (none r (places r.fid.0) (sets r.fid.0 ∙ ap (λ b. cond b k (children r.fid.0)) t)))
        (λ t. same_else r t)
      where
        none : (r : Rank) (o : Option Standing) → children' r.fid.0 ≡ k → frees_at o (children' r.fid.0) r ≡ false
        none r None e = refl
        none r (Some s) e = ap (λ n. same_rank (rank_of s) r && (not s.item.pinned && (n == 0))) e ∙ ap (λ b. same_rank (rank_of s) r && (not s.item.pinned && b)) some ∙ ap (λ b. same_rank (rank_of s) r && b) (and_none (not s.item.pinned)) ∙ and_none _

    pub counted_but : AreFreeBut places children f free → AreFreeBut places children' f free
    counted_but but r = but r ∙ split f r (λ b. (not b && frees places children r) ≡ (not b && frees places children' r)) (λ t. refl) (λ t. same_else r t)

  module _ (places' : Fid → Option Standing) (o : Option Standing) (sets : (g : Fid) → places' g ≡ cond (same_fid g f) o (places g)) where
    same_place : (r : Rank) → same_fid r.fid.0 f ≡ false → frees places children r ≡ frees places' children r
    same_place r t = ap (λ p. frees_at p (children r.fid.0) r) (sym (sets r.fid.0 ∙ ap (λ b. cond b o (places r.fid.0)) t))

    -- what was hidden is taken out
    pub taken_out : o ≡ None → AreFreeBut places children f free → AreFree places' children free
    taken_out none but r = but r ∙ split f r (λ b. (not b && frees places children r) ≡ frees places' children r)
        (λ t. sym (ap (λ p. frees_at p (children r.fid.0) r) (sets r.fid.0 ∙ ap (λ b. cond b o (places r.fid.0)) t ∙ none)))
        (λ t. same_place r t)

    -- what is put in is hidden
    pub put_hidden : places f ≡ None → AreFree places children free → AreFreeBut places' children f free
    put_hidden at exact r = exact r ∙ split f r (λ b. frees places children r ≡ (not b && frees places' children r)) (λ t. at_f r None t at) (λ t. same_place r t)

    pub keyed_without : o ≡ None → AreKeyed places → AreKeyed places'
    keyed_without none keyed g s at = (elim (same_fid g f) as (λ b. same_fid g f ≡ b → cond b o (places g) ≡ Some s → s.item.fid ≡ g) [
      | true ↦ λ t e. absurd (none_some (sym none ∙ e))
      | false ↦ λ t e. keyed g s e
    ]) refl (sym (sets g) ∙ at)
      where
        none_some : {s : Standing} → None ≡ Some s → ⊥
        none_some e = cc

    pub keyed_with : (s : Standing) → o ≡ Some s → s.item.fid ≡ f → AreKeyed places → AreKeyed places'
    keyed_with s some own keyed g d at = (elim (same_fid g f) as (λ b. same_fid g f ≡ b → cond b o (places g) ≡ Some d → d.item.fid ≡ g) [
      | true ↦ λ t e. ap (λ (x : Standing). x.item.fid) (sym (same_Some s d (sym some ∙ e))) ∙ own ∙ sym (same_fid_is g f t)
      | false ↦ λ t e. keyed g d e
    ]) refl (sym (sets g) ∙ at)

-- ---- counts

pub turned : (a b : Fid) → same_fid a b ≡ false → same_fid b a ≡ false
turned a b h = false_from_ne_true _ (λ t. both_ways _ h (subst (λ c. same_fid c b ≡ true) (same_fid_is b a t) (same_fid_refl b)))

pub one_less : (children children' : Fid → ℕ) (f : Fid) (less : ℕ) → less ≡ children f - 1 → ((p : Fid) → children' p ≡ set_at f less children p) → (p : Fid) → children' p ≡ children p - one_under (Some f) p
one_less children children' f less is sets p = sets p ∙ (elim (same_fid p f) as (λ b. same_fid p f ≡ b → cond b less (children p) ≡ children p - one_under (Some f) p) [
  | true ↦ λ t.
      let own : one_under (Some f) p ≡ 1 = ap (λ q. one_under (Some f) q) (same_fid_is p f t) ∙ ap (λ b. cond {A = ℕ} b 1 0) (same_fid_refl f) in
      is ∙ ap (λ q. children q - 1) (sym (same_fid_is p f t)) ∙ ap (λ n. children p - n) (sym own)
  | false ↦ λ t.
      let none : children p ≡ children p - 0 = omega arith in
      none ∙ sym (ap (λ b. children p - cond {A = ℕ} b 1 0) (turned p f t))
]) refl
