-- How calls go on that fetch what they need, and how they end.
use Rattle.std.proofs.Common.{◌≡◌, List, [], ◌∷◌, ◌++◌, append-nil, append_assoc, Option, Result, Ok, Err, refl, sym, ap, ◌∙◌, subst, inl, inr}
use Rattle.coda_disk.specs.Told.{Told}
use Rattle.coda_fid.specs.declared.fid.Fid.{Fid}
use Rattle.coda_journal.specs.declared.header.Header.{Header}
use Rattle.coda_plain.proofs.Lists.{left_push}
use Rattle.coda_tree.specs.Volume.{Nodes}
use Rattle.coda_venus.specs.History.{Payload, state_of}
use Rattle.coda_venus.specs.Standing.{IsUp}
use Rattle.coda_venus.specs.State.{ClientState, new_client, client_after_all}
use Rattle.coda_venus.specs.declared.refused.Refused.{Refused}
use Rattle.coda_venus.specs.declared.refused.Refused.TheVariants as why
use Rattle.coda_venus.specs.declared.venus.Venus.{Venus}
use Rattle.coda_serving.specs.Fetching.{IsFetchable, fetch_of, IsFetch, Fetches, FetchEnds}
use Rattle.coda_serving.specs.Answering.{Call, Ends, Answered}
use Rattle.coda_serving.specs.Laws.{after_payloads}

-- a call under way: these objects were fetched, and the client is up with the payloads behind its history
pub record IsUnderWay {D A R : Type 0} (told : D → Told) (header : Header) (offers : Option Nodes) (call : Call A R) (history : List Payload) (fids : List Fid) (venus : Venus D) : Type 0 where
  pub payloads : List Payload
  pub fetches : Fetches offers call.comes (state_of header history) fids payloads
  pub up : IsUp told header venus (history ++ payloads)

state_behind : (header : Header) (history payloads : List Payload) → state_of header (history ++ payloads) ≡ after_payloads (state_of header history) payloads
state_behind header history [] = ap (state_of header) (append-nil history)
state_behind header history (payload ∷ payloads) =
    ap (state_of header) (sym (append_assoc history (payload ∷ []) payloads)) ∙ state_behind header (history ++ payload ∷ []) payloads
    ∙ ap (λ c. after_payloads c payloads) (left_push client_after_all (new_client header.number header.cache) history payload)

-- one fetch more
fetches_push : {A : Type 0} (offers : Option Nodes) (call : ClientState → Result A Refused) (c : ClientState) (fids : List Fid) (payloads : List Payload) (fid : Fid) (payload : Payload) → Fetches offers call c fids payloads
    → IsFetch offers call (after_payloads c payloads) fid payload → Fetches offers call c (fids ++ fid ∷ []) (payloads ++ payload ∷ [])
fetches_push offers call c [] [] fid payload are is = (is, tt)
fetches_push offers call c (f ∷ fids) (p ∷ payloads) fid payload are is = (are.0, fetches_push offers call (client_after_all c p) fids payloads fid payload are.1 is)
fetches_push offers call c [] (p ∷ payloads) fid payload are is = absurd are
fetches_push offers call c (f ∷ fids) [] fid payload are is = absurd are

module _ {D A R : Type 0} (told : D → Told) (header : Header) (offers : Option Nodes) (call : Call A R) (history : List Payload) where
  pub begins : (venus : Venus D) → IsUp told header venus history → IsUnderWay told header offers call history [] venus
  begins venus up = record { payloads = []; fetches = tt; up = subst (IsUp told header venus) (sym (append-nil history)) up }

  -- the object that the call needs was fetched
  pub goes_on : {T : Type 0} (fids : List Fid) (venus new : Venus D) (fid : Fid) (x : T) (u : IsUnderWay told header offers call history fids venus) → call.comes (state_of header (history ++ u.payloads)) ≡ Err (why.Need fid)
      → FetchEnds {T = T} told header offers (history ++ u.payloads) fid new (Ok x) → IsUnderWay told header offers call history (fids ++ fid ∷ []) new
  goes_on fids venus new fid x u need f =
      let state = state_behind header history u.payloads in
      let payload = fetch_of (state_of header (history ++ u.payloads)) fid f.0 in
      record {
        payloads = u.payloads ++ payload ∷ [];
        fetches = fetches_push offers call.comes (state_of header history) fids u.payloads fid payload u.fetches
            (subst (λ c. IsFetch offers call.comes c fid payload) state (record { node = f.0; needed = need; can = f.1; is = refl }));
        up = subst (IsUp told header new) (append_assoc history u.payloads (payload ∷ [])) f.2;
      }

  -- it ends so
  pub ends_so : (fids : List Fid) (venus new : Venus D) (result : Result R Refused) (u : IsUnderWay told header offers call history fids venus) → Ends told header offers call (history ++ u.payloads) fids new result
      → Answered told header offers call history new result
  ends_so fids venus new result u ends = record { fids = fids; payloads = u.payloads; fetches = u.fetches; ends = ends }

  -- the object that the call needs isn't fetched
  unfetched : (T : Type 0) (past : List Payload) (fids : List Fid) (new : Venus D) (fid : Fid) (e : Refused) → call.comes (state_of header past) ≡ Err (why.Need fid) → FetchEnds {T = T} told header offers past fid new (Err e)
      → Ends told header offers call past fids new (Err e)
  unfetched T past fids new fid why.Memory need f = f
  unfetched T past fids new fid why.JournalFull need f =
      (inr (fetch_of (state_of header past) fid f.0, inl (fid, record { node = f.0; needed = need; can = f.1; is = refl }), f.2), f.3)
  unfetched T past fids new fid why.DiskFault need f = record {
    payload = fetch_of (state_of header past) fid f.0;
    next = inl (fid, record { node = f.0; needed = need; can = f.1; is = refl });
    down = f.2;
    stands = f.3;
  }
  unfetched T past fids new fid (why.Need g) need f = (need ∙ ap (λ (h : Fid). Err (why.Need h)) (sym f.0), λ node can. f.1 node (subst (λ h. IsFetchable offers (state_of header past).held.nodes h node) f.0 can), f.2)
  unfetched T past fids new fid why.Down need f = absurd f
  unfetched T past fids new fid (why.TooBig n) need f = absurd f
  unfetched T past fids new fid why.NotFound need f = absurd f
  unfetched T past fids new fid why.NotDir need f = absurd f
  unfetched T past fids new fid why.Exists need f = absurd f
  unfetched T past fids new fid why.IsDir need f = absurd f
  unfetched T past fids new fid why.NotFile need f = absurd f
  unfetched T past fids new fid why.NotEmpty need f = absurd f
  unfetched T past fids new fid why.Loop need f = absurd f
  unfetched T past fids new fid why.LogFull need f = absurd f
  unfetched T past fids new fid (why.Frozen n h) need f = absurd f
  unfetched T past fids new fid why.Nothing need f = absurd f
  unfetched T past fids new fid (why.Young a w) need f = absurd f
  unfetched T past fids new fid (why.NotFrozen n) need f = absurd f
  unfetched T past fids new fid (why.WrongNumber k n) need f = absurd f

  pub stops_at : (T : Type 0) (fids : List Fid) (venus new : Venus D) (fid : Fid) (e : Refused) (u : IsUnderWay told header offers call history fids venus) → call.comes (state_of header (history ++ u.payloads)) ≡ Err (why.Need fid)
      → FetchEnds {T = T} told header offers (history ++ u.payloads) fid new (Err e) → Answered told header offers call history new (Err e)
  stops_at T fids venus new fid e u need f = ends_so fids venus new (Err e) u (unfetched T (history ++ u.payloads) fids new fid e need f)
