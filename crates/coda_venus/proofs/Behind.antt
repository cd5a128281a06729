-- A client once an operation was performed, and nodes went behind it.
use Rattle.std.proofs.Common.{◌≡◌, ℕ, List, [], ◌∷◌, ◌++◌, sym, ap, ◌∙◌, subst}
use Rattle.std.specs.BTreeMap as tree
use Rattle.std.specs.Ordering.{nat_cmp}
use Rattle.coda_fid.specs.declared.fid.Fid.{Fid}
use Rattle.coda_fid.specs.declared.op.Record.{Record}
use Rattle.coda_walk.specs.Going.{is_listed}
use Rattle.coda_cache.specs.State.{CacheState}
use Rattle.coda_cache.specs.Steps.{taken_from, dropped, mutated}
use Rattle.coda_record.specs.declared.entry.ClientEntry.TheVariants as entry
use Rattle.coda_venus.specs.Accepting.{is_mentioned}
use Rattle.coda_venus.specs.Caching.{log_mentions, touched_by, marked_by, performed_in}
use Rattle.coda_venus.specs.Code.{IsClient, IsLogAt, held_in, held_of, volume_in}
use Rattle.coda_venus.specs.Held.{Held, held_after_operation, held_after_drops}
use Rattle.coda_venus.specs.Rounds.{dropping}
use Rattle.coda_venus.specs.State.{ClientState, client_after, client_after_all}
use Rattle.coda_venus.specs.declared.client.Client.{Client}
use Rattle.coda_venus.specs.History.{MayEnterAll}
use Rattle.coda_venus.specs.Operating.{MayBegin}
use Rattle.coda_venus.proofs.DropsFirst.{goes_behind}
use Rattle.coda_venus.proofs.Installed.{dropped_held}
use Rattle.coda_venus.proofs.Marked.{marked_same, marked_alike, all_marked_held, marked_size}

module _ (entered made new : Client) (touched gone : List Fid) (rest : (made.number ≡ entered.number) × (made.logs ≡ entered.logs)) (marks : made.cache ≡ marked_by (log_mentions entered) entered.cache touched)
    (number : new.number ≡ made.number) (logs : new.logs ≡ made.logs) (drops : new.cache ≡ dropped made.cache gone) where
  -- what is held is what went before, without what went
  behind_held : held_of new ≡ held_after_drops (held_of entered) gone
  behind_held = ap held_in drops ∙ dropped_held made.cache gone ∙ ap (λ h. held_after_drops h gone) (ap held_in marks ∙ all_marked_held (log_mentions entered) entered.cache touched)

  pub behind_client : (c : ClientState) → IsClient c entered → IsClient (record c { held = held_after_drops c.held gone }) new
  behind_client c is = record {
    number = is.number ∙ sym (number ∙ rest.0);
    blocks = is.blocks ∙ sym (ap (λ (k : CacheState). k.size) drops ∙ ap (λ (k : CacheState). k.size) marks ∙ marked_size (log_mentions entered) entered.cache touched);
    held = ap (λ h. held_after_drops h gone) is.held ∙ sym behind_held;
    logs = λ volume. subst (λ l. IsLogAt (c.volumes volume) (tree.get nat_cmp l volume)) (sym (logs ∙ rest.1)) (is.logs volume);
  }

  pub behind_nodes : new.cache.nodes ≡ taken_from entered.cache.nodes gone
  behind_nodes = ap (λ (k : CacheState). k.nodes) drops ∙ ap (λ m. taken_from m gone) (ap (λ (k : CacheState). k.nodes) marks ∙ ap (λ (h : Held). h.nodes) (all_marked_held (log_mentions entered) entered.cache touched))

  pub behind_cache : (old : CacheState) (client : ℕ) (rec : Record) → entered.cache ≡ mutated old client rec → ((f : Fid) → is_listed touched f ≡ is_listed (touched_by old rec.op) f) → new.cache ≡ performed_in (log_mentions new) old gone client rec
  behind_cache old client rec is same = drops ∙ ap (λ k. dropped k gone) (marks ∙ (λ i. marked_by (log_mentions entered) (is i) touched)
      ∙ marked_same (log_mentions entered) (log_mentions new) (mutated old client rec) touched (λ f. ap (λ l. is_mentioned (volume_in (tree.get nat_cmp l f.volume)) f) (sym (logs ∙ rest.1)))
      ∙ marked_alike (log_mentions new) (mutated old client rec) touched (touched_by old rec.op) same)

-- so it is with what the payload leaves
pub aside : (c : ClientState) (gone : List Fid) (volume : ℕ) (rec : Record) (code : Client) → MayEnterAll c (dropping gone ++ entry.Op volume rec ∷ []) → MayBegin c.held.nodes rec.op
    → IsClient (record (client_after c (entry.Op volume rec)) { held = held_after_drops (held_after_operation c.held c.number rec) gone }) code → IsClient (client_after_all c (dropping gone ++ entry.Op volume rec ∷ [])) code
aside c gone volume rec code may begin is = subst (λ (s : ClientState). IsClient s code) (sym (goes_behind c gone volume rec may begin)) is
