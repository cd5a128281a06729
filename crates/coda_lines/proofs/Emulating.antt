-- A client emulates the server of a volume where the link to the server is down, and nowhere else.
use Rattle.std.proofs.Common.{◌≡◌, ◌≢◌, Bool, true, false, refl, ap, ◌∙◌}
use Rattle.std.specs.FinMap as map
use Rattle.coda_state.specs.States.{settled_state}
use Rattle.coda_state.specs.declared.state.Link.TheVariants as link
use Rattle.coda_fid.specs.declared.fid.Fid.{Fid}
use Rattle.coda_cml.specs.State.{LogState}
use Rattle.coda_script.specs.declared.line.Strength.{Strength}
use Rattle.coda_script.specs.declared.line.Strength.TheVariants.{Strong, Weak, Down}
use Rattle.coda_cell.specs.Looking.{offered}
use Rattle.coda_cell.specs.State.{ReplicaState, log_of}
use Rattle.coda_cell.specs.States.{is_empty, shown_state, state_over}
use Rattle.coda_cell.specs.Steps.{reached}
use Rattle.coda_lines.specs.Clients.{given_by, source_at, is_emulating, emulates_at}
use Rattle.coda_lines.specs.Emulating.{ClientsEmulateWhenCutOff}

-- over a strong link, with an empty log or another one
over_strong : (empty : Bool) → is_emulating (shown_state (settled_state link.Strong empty)) ≡ false
over_strong true = refl
over_strong false = refl

linked_over : (strength : Strength) (log : LogState) → strength ≢ Down → is_emulating (state_over strength log) ≡ false
linked_over Strong log up = over_strong (is_empty log)
linked_over Weak log up = refl
linked_over Down log up = absurd (up refl)

offered_over : (strength : Strength) (r : ReplicaState) (fid : Fid) → strength ≢ Down
    → offered (reached strength r) fid ≡ map.get r.tree.nodes fid
offered_over Strong r fid up = refl
offered_over Weak r fid up = refl
offered_over Down r fid up = absurd (up refl)

pub clients_emulate_when_cut_off : ClientsEmulateWhenCutOff
clients_emulate_when_cut_off = record {
  emulating = λ s number volume c r there down.
      ap (λ o. emulates_at (s.links number) (c.volumes volume) o) there
      ∙ ap (λ strength. is_emulating (state_over strength (log_of (c.volumes volume)))) down;
  nothing = λ s number fid r there down.
      ap (λ o. source_at (s.links number) fid o) there
      ∙ ap (λ strength. given_by r.server fid (offered (reached strength r) fid)) down;
  linked = λ s number volume c r there up.
      ap (λ o. emulates_at (s.links number) (c.volumes volume) o) there
      ∙ linked_over (s.links number r.server) (log_of (c.volumes volume)) up;
  fetched = λ s number fid node r there up has_it.
      ap (λ o. source_at (s.links number) fid o) there
      ∙ ap (λ o. given_by r.server fid o) (offered_over (s.links number r.server) r fid up ∙ has_it);
}
