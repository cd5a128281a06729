-- Fetches bring what is offered.
use Rattle.std.proofs.Common.{◌≡◌, ◌≢◌, ℕ, List, [], ◌∷◌, Option, Some, None, Result, refl, sym, ap, ◌∙◌, inl, inr}
use Rattle.std.proofs.lemmas.Option.{none-some}
use Rattle.std.specs.FinMap as map
use Rattle.coda_fid.specs.declared.fid.Fid.{Fid}
use Rattle.coda_fid.proofs.Fids.{exact_fids, fids_total}
use Rattle.coda_tree.specs.declared.node.Node.{Node}
use Rattle.coda_tree.specs.Volume.{Nodes}
use Rattle.coda_tree.proofs.Order.{get_here, get_else}
use Rattle.coda_venus.specs.History.{Payload}
use Rattle.coda_venus.specs.State.{ClientState, client_after_all}
use Rattle.coda_venus.specs.declared.refused.Refused.{Refused}
use Rattle.coda_serving.specs.Fetching.{offered, IsFetch, Fetches}
use Rattle.coda_serving.specs.Laws.{after_payloads, AreBrought}

module _ {A : Type 0} (offers : Option Nodes) (call : ClientState → Result A Refused) where
  -- one object
  held_there : (c : ClientState) (fid : Fid) (payload : Payload) (is : IsFetch offers call c fid payload) → map.get (client_after_all c payload).held.nodes fid ≡ Some is.node
  held_there c fid payload is = ap (λ p. map.get (client_after_all c p).held.nodes fid) is.is ∙ get_here fids_total c.held.nodes fid is.node

  held_else : (c : ClientState) (fid f : Fid) (payload : Payload) → IsFetch offers call c fid payload → f ≢ fid → map.get (client_after_all c payload).held.nodes f ≡ map.get c.held.nodes f
  held_else c fid f payload is off = ap (λ p. map.get (client_after_all c p).held.nodes f) is.is ∙ get_else fids_total exact_fids c.held.nodes fid is.node f off

  held_still : (c : ClientState) (fid f : Fid) (payload : Payload) (node : Node) → IsFetch offers call c fid payload → map.get c.held.nodes f ≡ Some node → map.get (client_after_all c payload).held.nodes f ≡ Some node
  held_still c fid f payload node is held = held_else c fid f payload is (λ same. none-some node (sym is.can.missed.absent ∙ sym (ap (map.get c.held.nodes) same) ∙ held)) ∙ held

  logs_still : (c : ClientState) (fid : Fid) (payload : Payload) → IsFetch offers call c fid payload → (volume : ℕ) → (client_after_all c payload).volumes volume ≡ c.volumes volume
  logs_still c fid payload is volume = ap (λ p. (client_after_all c p).volumes volume) is.is

  -- an object that isn't held after a fetch wasn't before it
  absent_before : (c : ClientState) (fid f : Fid) (payload : Payload) → IsFetch offers call c fid payload → map.get (client_after_all c payload).held.nodes f ≡ None → map.get c.held.nodes f ≡ None
  absent_before c fid f payload is absent = by (map.get c.held.nodes f) refl
    where
      by : (o : Option Node) → map.get c.held.nodes f ≡ o → map.get c.held.nodes f ≡ None
      by None e = e
      by (Some node) e = absurd (none-some node (sym absent ∙ held_still c fid f payload node is e))

  pub brought : (c : ClientState) (fids : List Fid) (payloads : List Payload) → Fetches offers call c fids payloads → AreBrought offers c fids (after_payloads c payloads)
  brought c [] [] are = record { absent = λ fid is. absurd is; brought = λ fid is. absurd is; kept = λ fid node held. held; logs = λ volume. refl }
  brought c [] (payload ∷ payloads) are = absurd are
  brought c (fid ∷ fids) [] are = absurd are
  brought c (fid ∷ fids) (payload ∷ payloads) are =
      let is = are.0 in
      let rest = brought (client_after_all c payload) fids payloads are.1 in
      record {
        absent = λ f at. elim at [ inl same ↦ ap (map.get c.held.nodes) same ∙ is.can.missed.absent | inr later ↦ absent_before c fid f payload is (rest.absent f later) ];
        brought = λ f at. elim at [
          | inl same ↦ (is.node, ap (offered offers) same ∙ is.can.offer, ap (map.get (after_payloads c (payload ∷ payloads)).held.nodes) same ∙ rest.kept fid is.node (held_there c fid payload is))
          | inr later ↦ rest.brought f later
        ];
        kept = λ f node held. rest.kept f node (held_still c fid f payload node is held);
        logs = λ volume. rest.logs volume ∙ logs_still c fid payload is volume;
      }
