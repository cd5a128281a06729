-- The parts of a cache agree after each change.
use Rattle.std.proofs.Common.{◌≡◌, ◌≢◌, Bool, true, false, cond, not, ◌||◌, List, [], ◌∷◌, ◌++◌, Option, Some, None, is_some, option_map, refl, sym, ap, ◌∙◌, subst, inl, inr, append-nil}
use Rattle.std.specs.FinMap as map
use Rattle.std.proofs.lemmas.Bool.{false_from_ne_true}
use Rattle.std.proofs.lemmas.List.Folds.{list_any-append}
use Rattle.coda_fid.specs.declared.fid.Fid.{Fid}
use Rattle.coda_fid.specs.Fid.{fid_cmp, same_fid}
use Rattle.coda_fid.proofs.Fids.{fids_total, exact_fids, same_fid_is, same_fid_refl}
use Rattle.coda_tree.specs.declared.node.Node.{Node}
use Rattle.coda_tree.specs.Volume.{Nodes, has}
use Rattle.coda_tree.specs.Slots.{altered}
use Rattle.coda_tree.proofs.Order.{fid_cases, get_here, get_else, gone_here, gone_else}
use Rattle.coda_tree.proofs.Keyed.{at_altered, off_altered}
use Rattle.coda_cache.specs.declared.hold.Hold.{Hold}
use Rattle.coda_cache.specs.Uses.{except, latest}
use Rattle.coda_walk.specs.Going.{is_listed}
use Rattle.coda_cache.specs.State.{Holds}
use Rattle.coda_cache.specs.Keeping.{Agree}
use Rattle.coda_cache.proofs.Uses.{filter_joined, all_but_none}

-- ---- the order of use

same_apart : (a b : Fid) → a ≢ b → same_fid a b ≡ false
same_apart a b apart = false_from_ne_true _ (λ t. apart (same_fid_is a b t))

pub except_here : (fids : List Fid) (f : Fid) → is_listed (except fids f) f ≡ false
except_here [] f = refl
except_here (g ∷ fids) f = (elim (same_fid g f) as (λ b. same_fid g f ≡ b → is_listed (cond (not b) (g ∷ except fids f) (except fids f)) f ≡ false) [
  | true ↦ λ t. except_here fids f
  | false ↦ λ t. ap (λ b. b || is_listed (except fids f) f) t ∙ except_here fids f
]) refl

pub except_else : (fids : List Fid) (f q : Fid) → q ≢ f → is_listed (except fids f) q ≡ is_listed fids q
except_else [] f q apart = refl
except_else (g ∷ fids) f q apart = (elim (same_fid g f) as (λ b. same_fid g f ≡ b → is_listed (cond (not b) (g ∷ except fids f) (except fids f)) q ≡ (same_fid g q || is_listed fids q)) [
  | true ↦ λ t. except_else fids f q apart ∙ sym (ap (λ b. b || is_listed fids q) (same_apart g q (λ e. apart (sym e ∙ same_fid_is g f t))))
  | false ↦ λ t. ap (λ b. same_fid g q || b) (except_else fids f q apart)
]) refl

or_true : (b : Bool) → (b || true) ≡ true
or_true true = refl
or_true false = refl

or_false : (b : Bool) → (b || false) ≡ b
or_false true = refl
or_false false = refl

pub latest_here : (fids : List Fid) (f : Fid) → is_listed (latest fids f) f ≡ true
latest_here fids f = list_any-append (λ g. same_fid g f) (except fids f) (f ∷ []) ∙ ap (λ b. is_listed (except fids f) f || (b || false)) (same_fid_refl f) ∙ or_true _

pub latest_else : (fids : List Fid) (f q : Fid) → q ≢ f → is_listed (latest fids f) q ≡ is_listed fids q
latest_else fids f q apart =
    list_any-append (λ g. same_fid g q) (except fids f) (f ∷ []) ∙ ap (λ b. is_listed (except fids f) q || (b || false)) (same_apart f q (λ e. apart (sym e)))
    ∙ or_false _ ∙ except_else fids f q apart

-- ---- the parts together

pub agree_none : Agree map.empty map.empty []
agree_none = record {
  held = λ f. ap (λ (o : Option Hold). is_some o) (map.get-empty fid_cmp f) ∙ sym (ap (λ (o : Option Node). is_some o) (map.get-empty fid_cmp f));
  used = λ f. sym (ap (λ (o : Option Node). is_some o) (map.get-empty fid_cmp f));
}

module _ (nodes : Nodes) (holds : Holds) (recency : List Fid) (a : Agree nodes holds recency) where
  -- a node is used
  pub agree_used : (f : Fid) → is_listed recency f ≡ true → Agree nodes holds (latest recency f)
  agree_used f listed = record {
    held = a.held;
    used = λ q. elim (fid_cases q f) [
      | inl same ↦ ap (is_listed (latest recency f)) same ∙ latest_here recency f ∙ sym listed ∙ a.used f ∙ ap (has nodes) (sym same)
      | inr apart ↦ latest_else recency f q apart ∙ a.used q
    ];
  }

  -- the same, whether or not the node is there
  pub agree_touched : (f : Fid) → Agree nodes holds (cond (is_listed recency f) (latest recency f) recency)
  agree_touched f = (elim (is_listed recency f) as (λ b. is_listed recency f ≡ b → Agree nodes holds (cond b (latest recency f) recency)) [
    | true ↦ λ h. agree_used f h
    | false ↦ λ _. a
  ]) refl

  -- a hold is changed
  pub agree_altered : (f : Fid) (change : Hold → Hold) → Agree nodes (altered holds f change) recency
  agree_altered f change = record {
    held = λ q. elim (fid_cases q f) [
      | inl same ↦
          ap (map.contains_key (altered holds f change)) same ∙ ap (λ (o : Option Hold). is_some o) (at_altered holds f change) ∙ changed (map.get holds f) ∙ a.held f ∙ ap (has nodes) (sym same)
      | inr apart ↦ ap (λ (o : Option Hold). is_some o) (off_altered holds f change q apart) ∙ a.held q
    ];
    used = a.used;
  }
    where
      changed : (o : Option Hold) → is_some (option_map change o) ≡ is_some o
      changed None = refl
      changed (Some hold) = refl

  -- a node is put
  pub agree_put : (f : Fid) (node : Node) (hold : Hold) → Agree (map.insert nodes f node) (map.insert holds f hold) (latest recency f)
  agree_put f node hold = record {
    held = λ q. elim (fid_cases q f) [
      | inl same ↦ ap (λ (o : Option Hold). is_some o) (ap (map.get (map.insert holds f hold)) same ∙ get_here fids_total holds f hold) ∙ sym (ap (λ (o : Option Node). is_some o) (ap (map.get (map.insert nodes f node)) same ∙ get_here fids_total nodes f node))
      | inr apart ↦ ap (λ (o : Option Hold). is_some o) (get_else fids_total exact_fids holds f hold q apart) ∙ a.held q ∙ sym (ap (λ (o : Option Node). is_some o) (get_else fids_total exact_fids nodes f node q apart))
    ];
    used = λ q. elim (fid_cases q f) [
      | inl same ↦ ap (is_listed (latest recency f)) same ∙ latest_here recency f ∙ sym (ap (λ (o : Option Node). is_some o) (ap (map.get (map.insert nodes f node)) same ∙ get_here fids_total nodes f node))
      | inr apart ↦ latest_else recency f q apart ∙ a.used q ∙ sym (ap (λ (o : Option Node). is_some o) (get_else fids_total exact_fids nodes f node q apart))
    ];
  }

  -- a node is taken out
  pub agree_out : (f : Fid) → Agree (map.remove nodes f) (map.remove holds f) (except recency f)
  agree_out f = record {
    held = λ q. elim (fid_cases q f) [
      | inl same ↦ ap (λ (o : Option Hold). is_some o) (ap (map.get (map.remove holds f)) same ∙ gone_here fids_total holds f) ∙ sym (ap (λ (o : Option Node). is_some o) (ap (map.get (map.remove nodes f)) same ∙ gone_here fids_total nodes f))
      | inr apart ↦ ap (λ (o : Option Hold). is_some o) (gone_else fids_total exact_fids holds f q apart) ∙ a.held q ∙ sym (ap (λ (o : Option Node). is_some o) (gone_else fids_total exact_fids nodes f q apart))
    ];
    used = λ q. elim (fid_cases q f) [
      | inl same ↦ ap (is_listed (except recency f)) same ∙ except_here recency f ∙ sym (ap (λ (o : Option Node). is_some o) (ap (map.get (map.remove nodes f)) same ∙ gone_here fids_total nodes f))
      | inr apart ↦ except_else recency f q apart ∙ a.used q ∙ sym (ap (λ (o : Option Node). is_some o) (gone_else fids_total exact_fids nodes f q apart))
    ];
  }

-- equal parts agree
pub agree_same : (nodes nodes2 : Nodes) (holds holds2 : Holds) (recency recency2 : List Fid) → nodes2 ≡ nodes → holds2 ≡ holds → recency2 ≡ recency → Agree nodes holds recency → Agree nodes2 holds2 recency2
agree_same nodes nodes2 holds holds2 recency recency2 n h r a =
    subst (λ x. Agree x holds2 recency2) (sym n) (subst (λ x. Agree nodes x recency2) (sym h) (subst (λ x. Agree nodes holds x) (sym r) a))

-- a fid that wasn't there and was forgotten again
pub forgotten : (fids : List Fid) (f : Fid) → is_listed fids f ≡ false → except (latest fids f) f ≡ fids
forgotten fids f free =
    filter_joined (λ g. not (same_fid g f)) (except fids f) (f ∷ []) ∙ ap (λ b. except (except fids f) f ++ cond (not b) (f ∷ []) []) (same_fid_refl f)
    ∙ append-nil (except (except fids f) f) ∙ ap (λ l. except l f) (all_but_none (λ g. same_fid g f) f (λ g. refl) fids free) ∙ all_but_none (λ g. same_fid g f) f (λ g. refl) fids free

-- what isn't held isn't in the order of use, nor is a node there
pub not_used : (nodes : Nodes) (holds : Holds) (recency : List Fid) → Agree nodes holds recency → (f : Fid) → map.get holds f ≡ None → is_listed recency f ≡ false
not_used nodes holds recency a f none = a.used f ∙ sym (a.held f) ∙ ap (λ (o : Option Hold). is_some o) none

pub is_used : (nodes : Nodes) (holds : Holds) (recency : List Fid) → Agree nodes holds recency → (f : Fid) → is_some (map.get holds f) ≡ true → is_listed recency f ≡ true
is_used nodes holds recency a f some = a.used f ∙ sym (a.held f) ∙ some

-- a node is put in the place of one, and its hold is changed
pub agree_renewed : (nodes : Nodes) (holds : Holds) (recency : List Fid) → Agree nodes holds recency → (f : Fid) (node : Node) (change : Hold → Hold) → is_some (map.get holds f) ≡ true → Agree (map.insert nodes f node) (altered holds f change) (latest recency f)
agree_renewed nodes holds recency a f node change some = record {
  held = λ q. let b = agree_altered nodes holds recency a f change in elim (fid_cases q f) [
    | inl same ↦ b.held q ∙ ap (has nodes) same ∙ sym (a.held f) ∙ some ∙ sym (ap (λ (o : Option Node). is_some o) (ap (map.get (map.insert nodes f node)) same ∙ get_here fids_total nodes f node))
    | inr apart ↦ b.held q ∙ sym (ap (λ (o : Option Node). is_some o) (get_else fids_total exact_fids nodes f node q apart))
  ];
  used = λ q. let b = agree_put nodes holds recency a f node (record { parent = None; from = None; dirty = false }) in b.used q;
}
