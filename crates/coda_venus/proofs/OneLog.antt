-- A client of which one log changed.
use Rattle.std.proofs.Common.{◌≡◌, ℕ, if◌then◌else◌, Option, Some, sym, ap, ◌∙◌, subst, inl, inr}
use Rattle.std.proofs.lemmas.Bool.{eq-eqb, ne_eqb, cases_eq}
use Rattle.std.specs.BTreeMap as tree
use Rattle.std.specs.Ordering.{nat_cmp}
use Rattle.coda_cache.specs.State.{CacheState}
use Rattle.coda_venus.specs.State.{ClientVolume, ClientState, put}
use Rattle.coda_venus.specs.Code.{IsLogAt, IsVolumeLog, IsClient, held_in}
use Rattle.coda_venus.specs.declared.client.Client.{Client}
use Rattle.coda_venus.specs.declared.volume_log.VolumeLog.{VolumeLog}

put_logs : (f : ℕ → ClientVolume) (g : ℕ → Option VolumeLog) (volume : ℕ) (v : ClientVolume) (o : Option VolumeLog) → ((q : ℕ) → IsLogAt (f q) (g q)) → IsLogAt v o → (q : ℕ) → IsLogAt (put f volume v q) (put g volume o q)
put_logs f g volume v o all is q = elim (cases_eq q volume) [
  | inl same ↦
      subst (λ w. IsLogAt w (put g volume o q)) (sym (ap (λ b. if b then v else f q) (eq-eqb q volume same))) (subst (λ w. IsLogAt v w) (sym (ap (λ b. if b then o else g q) (eq-eqb q volume same))) is)
  | inr other ↦
      subst (λ w. IsLogAt w (put g volume o q)) (sym (ap (λ b. if b then v else f q) (ne_eqb q volume other))) (subst (λ w. IsLogAt (f q) w) (sym (ap (λ b. if b then o else g q) (ne_eqb q volume other))) (all q))
]

pub with_log : (c : ClientState) (old new : Client) (volume : ℕ) (v : ClientVolume) (log : VolumeLog) → IsClient c old → (new.number ≡ old.number) × (new.cache ≡ old.cache)
    → ((q : ℕ) → tree.get nat_cmp new.logs q ≡ put (tree.get nat_cmp old.logs) volume (Some log) q) → IsVolumeLog v log → IsClient (record c { volumes = put c.volumes volume v }) new
with_log c old new volume v log is kept logs here = record {
  number = is.number ∙ sym kept.0;
  blocks = is.blocks ∙ ap (λ (k : CacheState). k.size) (sym kept.1);
  held = is.held ∙ ap held_in (sym kept.1);
  logs = λ q. subst (IsLogAt (put c.volumes volume v q)) (sym (logs q)) (put_logs c.volumes (tree.get nat_cmp old.logs) volume v (Some log) is.logs here q);
}
