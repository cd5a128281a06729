-- What may be served of what a client has cached; where its volume is emulated, that is all.
use Rattle.std.proofs.Common.{◌≡◌, ℕ, Bool, true, false, cond, List, Option, None, Result, refl, sym, ap, ◌∙◌, subst}
use Rattle.std.specs.FinMap as map
use Rattle.coda_fid.specs.declared.fid.Fid.{Fid}
use Rattle.coda_fid.proofs.Fids.{exact_fids, fids_total}
use Rattle.coda_fid.specs.declared.op.Over.{Over}
use Rattle.coda_tree.specs.declared.node.Node.{Node}
use Rattle.coda_tree.specs.declared.node.NodeKind.{NodeKind}
use Rattle.coda_tree.specs.Bindings.{Name}
use Rattle.coda_tree.specs.Volume.{Nodes}
use Rattle.coda_venus.specs.Accepting.{Sight, Accepted, new_under, bound_at, replaced_by, accept}
use Rattle.coda_venus.specs.Ask.{Asked}
use Rattle.coda_venus.specs.Caching.{serves, served_nodes, served_held, served_sight}
use Rattle.coda_venus.specs.Code.{held_of, sight}
use Rattle.coda_venus.specs.Held.{Held, some_below}
use Rattle.coda_venus.specs.Keeping.{seen_at}
use Rattle.coda_venus.specs.Looking.{step_from, OrMemory}
use Rattle.coda_venus.specs.declared.refused.Refused.{Refused}
use Rattle.coda_venus.specs.declared.seen.Seen.{Seen}
use Rattle.coda_venus.specs.declared.client.Client.{Client}

pub served_at : (emulating : Bool) (code : Client) (fid : Fid)
    → map.get (served_nodes emulating code) fid ≡ cond (serves emulating code fid) (map.get code.cache.nodes fid) None
served_at emulating code fid =
    map.get-retain_keys code.cache.nodes (serves emulating code) fid
    (λ x e. ap (serves emulating code) (sym (exact_fids fid x e)))

pub is_served : (emulating : Bool) (code : Client) (fid : Fid) → serves emulating code fid ≡ true
    → map.get (served_nodes emulating code) fid ≡ map.get code.cache.nodes fid
is_served emulating code fid e = served_at emulating code fid ∙ ap (λ b. cond b (map.get code.cache.nodes fid) None) e

pub isnt_served : (emulating : Bool) (code : Client) (fid : Fid) → serves emulating code fid ≡ false
    → map.get (served_nodes emulating code) fid ≡ None
isnt_served emulating code fid e = served_at emulating code fid ∙ ap (λ b. cond b (map.get code.cache.nodes fid) None) e

-- what isn't cached isn't served
pub none_served : (emulating : Bool) (code : Client) (fid : Fid) → map.get code.cache.nodes fid ≡ None
    → map.get (served_nodes emulating code) fid ≡ None
none_served emulating code fid e =
    served_at emulating code fid ∙ by (serves emulating code fid) (map.get code.cache.nodes fid) e
  where
    by : (b : Bool) (o : Option Node) → o ≡ None → cond b o None ≡ None
    by true o e = e
    by false o e = refl

-- ---- emulated volumes

pub all_served : (code : Client) → served_nodes true code ≡ code.cache.nodes
all_served code = map.same_map fids_total exact_fids _ _ (served_at true code)

pub all_held : (code : Client) → served_held true code ≡ held_of code
all_held code = λ i. let h : Held = record { nodes = all_served code i; parents = (held_of code).parents } in h

pub all_seen : (code : Client) (volume : ℕ) → served_sight true code volume ≡ sight code volume
all_seen code volume = ap (λ (h : Held). let s : Sight = record (sight code volume) { held = h } in s) (all_held code)

-- what is answered of an emulated volume is so of all that is cached

module _ (code : Client) where
  pub steps_alike : (at : Fid) (name : Name) (result : Result Fid Refused)
      → result ≡ step_from (map.get (served_nodes true code) at) at name
      → result ≡ step_from (map.get code.cache.nodes at) at name
  steps_alike at name result is = is ∙ ap (λ (m : Nodes). step_from (map.get m at) at name) (all_served code)

  pub news_alike : (volume : ℕ) (dir : Fid) (name : Name) (result : Result Fid Refused)
      → result ≡ new_under (served_sight true code volume) volume (map.get (served_nodes true code) dir) dir name
      → result ≡ new_under (sight code volume) volume (map.get code.cache.nodes dir) dir name
  news_alike volume dir name result is =
      is ∙ (λ i. new_under (all_seen code volume i) volume (map.get (all_served code i) dir) dir name)

  pub below_alike : (test : Fid → Bool) (fid : Fid) (result : Bool)
      → result ≡ some_below (served_held true code) test fid
      → result ≡ some_below (held_of code) test fid
  below_alike test fid result is = is ∙ ap (λ (h : Held). some_below h test fid) (all_held code)

  pub bound_alike : (dir : Fid) (name : Name) (result : Result (Option Fid) Refused)
      → result ≡ bound_at (served_nodes true code) (map.get (served_nodes true code) dir) dir name
      → result ≡ bound_at code.cache.nodes (map.get code.cache.nodes dir) dir name
  bound_alike dir name result is = is ∙ ap (λ (m : Nodes). bound_at m (map.get m dir) dir name) (all_served code)

  pub replaced_alike : (fid : Fid) (bound : Option Fid) (result : Result (Option Over) Refused)
      → result ≡ replaced_by (served_nodes true code) fid bound
      → result ≡ replaced_by code.cache.nodes fid bound
  replaced_alike fid bound result is = is ∙ ap (λ (m : Nodes). replaced_by m fid bound) (all_served code)

  pub seen_alike : (shown : Node → NodeKind → Result Node Refused) (volume : ℕ) (path : List Name)
      (result : Result Seen Refused) → OrMemory result (seen_at shown (served_nodes true code) volume path)
      → OrMemory result (seen_at shown code.cache.nodes volume path)
  seen_alike shown volume path result =
      subst (λ (m : Nodes). OrMemory result (seen_at shown m volume path)) (all_served code)

  pub accepted_whole : (volume : ℕ) (ask : Asked) (result : Accepted)
      → OrMemory result (accept (served_sight true code volume) volume ask)
      → OrMemory result (accept (sight code volume) volume ask)
  accepted_whole volume ask result = subst (λ (s : Sight). OrMemory result (accept s volume ask)) (all_seen code volume)
