-- Which copy leads on a name, by the names on which each lacks an update.
use Rattle.std.proofs.Common.{◌≡◌, Bool, true, false, cond, not, List, [], ◌∷◌, Option, Some, None, refl, sym, ap, ◌∙◌, subst, ◌&&◌, ◌||◌}
use Rattle.std.specs.Prelude.{option_map}
use Rattle.std.specs.FinMap as finmap
use Rattle.std.specs.List.{find, list_any, list_all}
use Rattle.coda_fid.specs.declared.fid.Fid.{Fid}
use Rattle.coda_tree.specs.Bindings.{Name, Bindings}
use Rattle.coda_reslog.specs.declared.change.Held.{Held}
use Rattle.coda_resolve.specs.declared.claims.Claim.{Claim}
use Rattle.coda_resolve.specs.Copies.{Copies, bindings_of}
use Rattle.coda_resolve.specs.Missing.{has_update, missing, leads, leader}
use Rattle.coda_resolve.specs.Merged.{is_on, same_binding, shared, agreed, binding}
use Rattle.coda_resolve.specs.Claims.{has_name, AreLacking, AreClaims, AreClaimsOf, copy_of, copies_of}
use Rattle.coda_resolve.proofs.Lists.{some_none}
use Rattle.coda_resolve.proofs.Leaders.{leads_all}

not_any : {X : Type 0} (a b : X → Bool) (xs : List X) → list_all (λ x. not (a x) || b x) xs ≡ not (list_any (λ x. a x && not (b x)) xs)
not_any a b [] = refl
not_any a b (x ∷ xs) = by (a x) (b x) (not_any a b xs)
  where
    by : (p q : Bool) → list_all (λ y. not (a y) || b y) xs ≡ not (list_any (λ y. a y && not (b y)) xs) → ((not p || q) && list_all (λ y. not (a y) || b y) xs) ≡ not ((p && not q) || list_any (λ y. a y && not (b y)) xs)
    by true true e = e
    by true false e = refl
    by false q e = e

-- a copy leads on a name just where it lacks no update on it
leads_named : (all : Copies) (copy : Option Held) (names : Bindings) (n : Name) → AreLacking (missing all) copy names → leads (is_on n) all copy ≡ not (has_name names n)
leads_named all copy names n are = leads_all (is_on n) all copy ∙ not_any (is_on n) (λ u. has_update u copy) (missing all) ∙ ap not (sym (are n))

-- what a copy binds at the name
abbrev pub at_name : Name → Option Held → Option Fid
at_name n copy = finmap.get (bindings_of copy) n

module _ (all : Copies) (n : Name) (claims rest : List Claim) (first : Claim) (split : claims ≡ first ∷ rest) (are : AreClaims (missing all) claims) where
  apart : AreClaims (missing all) (first ∷ rest)
  apart = subst (AreClaims (missing all)) split are

  pub rest_are : AreClaims (missing all) rest
  rest_are = apart.1

  pub led_here : (to : Option Fid) → has_name first.lacking n ≡ false → to ≡ at_name n (copy_of first) → Some to ≡ option_map (at_name n) (find (leads (is_on n) all) (copies_of claims))
  led_here to e is =
      ap Some is
      ∙ sym (
      ap (λ cs. option_map (at_name n) (find (leads (is_on n) all) (copies_of cs))) split
      ∙ ap (λ b. option_map (at_name n) (cond b (Some (copy_of first)) (find (leads (is_on n) all) (copies_of rest)))) (leads_named all (copy_of first) first.lacking n apart.0 ∙ ap not e)
      )

  pub led_further : (result : Option (Option Fid)) → has_name first.lacking n ≡ true → result ≡ option_map (at_name n) (find (leads (is_on n) all) (copies_of rest)) → result ≡ option_map (at_name n) (find (leads (is_on n) all) (copies_of claims))
  led_further result e is =
      is
      ∙ sym (
      ap (λ cs. option_map (at_name n) (find (leads (is_on n) all) (copies_of cs))) split
      ∙ ap (λ b. option_map (at_name n) (cond b (Some (copy_of first)) (find (leads (is_on n) all) (copies_of rest)))) (leads_named all (copy_of first) first.lacking n apart.0 ∙ ap not e)
      )

-- what all bind alike
pub shared_first : (n : Name) (copies rest : Copies) (first : Option Held) (to : Option Fid) (alike : Bool) (result : Option (Option Fid)) → copies ≡ first ∷ rest → to ≡ at_name n first → alike ≡ list_all (λ other. same_binding to (at_name n other)) rest → result ≡ cond alike (Some to) None → result ≡ shared n copies
shared_first n copies rest first to alike result split to_is alike_is is =
    is
    ∙ ap (λ b. cond b (Some to) None) alike_is
    ∙ (λ i. cond (list_all (λ other. same_binding (to_is i) (at_name n other)) rest) (Some (to_is i)) None)
    ∙ sym (ap (shared n) split)

-- ---- the merged binding

agreed_by : (n : Name) (copies : Copies) (o : Option (Option Held)) (r : Option (Option Fid)) → r ≡ option_map (at_name n) o → ((to : Option Fid) → r ≡ Some to → Some to ≡ agreed n copies o) × (r ≡ None → shared n copies ≡ agreed n copies o)
agreed_by n copies None r e = (λ to is. absurd (some_none to (sym is ∙ e)), λ is. refl)
agreed_by n copies (Some copy) r e = (λ to is. sym is ∙ e, λ is. absurd (some_none (at_name n copy) (sym e ∙ is)))

module _ (copies : Copies) (claims : List Claim) (n : Name) (r : Option (Option Fid)) (are : AreClaimsOf copies claims) (is : r ≡ option_map (at_name n) (find (leads (is_on n) copies) (copies_of claims))) where
  at_leader : r ≡ option_map (at_name n) (leader (is_on n) copies)
  at_leader = is ∙ ap (λ cs. option_map (at_name n) (find (leads (is_on n) copies) cs)) are.same

  pub binding_led : (to : Option Fid) → r ≡ Some to → Some to ≡ binding copies n
  binding_led = (agreed_by n copies (leader (is_on n) copies) r at_leader).0

  pub binding_shared : r ≡ None → shared n copies ≡ binding copies n
  binding_shared = (agreed_by n copies (leader (is_on n) copies) r at_leader).1
