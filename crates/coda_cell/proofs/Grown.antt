-- What the histories of a cell leave, after an event.
use Rattle.std.proofs.Common.{◌≡◌, ℕ, ◌==◌, ◌&&◌, true, false, cond, List, [], ◌∷◌, ◌++◌, Option, Some, None, option_map, refl, sym, ap, ◌∙◌}
use Rattle.std.proofs.lemmas.Bool.{eqb-true}
use Rattle.coda_plain.specs.Cell.{ClientEntry}
use Rattle.coda_plain.specs.Decisions.{ReplicaEntry}
use Rattle.coda_plain.specs.Moves.{AtClient, AtReplica, grown as grown_actor}
use Rattle.coda_cell.specs.State.{new_client, client_after, client_after_all, new_replica, replica_after, replica_after_all, replica_after_at, VolumeMade, ClientMade, Entered, after}
use Rattle.coda_cell.specs.Made.{MadeCell, client_of, replica_of, state_of, grown}
use Rattle.coda_cell.proofs.Histories.{client_push, replica_push, server_stays}

-- a cell that has another history of a client
client_more : (number : ℕ) (history : List ClientEntry) (entry : ClientEntry) (o : Option ℕ) → option_map (client_of number (history ++ entry ∷ [])) o ≡ option_map (λ c. client_after c entry) (option_map (client_of number history) o)
client_more number history entry None = refl
client_more number history entry (Some blocks) = ap Some (client_push (new_client number blocks) history entry)

pub client_grown : (cell : MadeCell) (number : ℕ) (entry : ClientEntry) → state_of (grown cell (Entered (AtClient number entry))) ≡ after (state_of cell) (Entered (AtClient number entry))
client_grown cell number entry = λ i. record (state_of cell) { clients = λ q. at q i }
  where
    at : (q : ℕ) → option_map (client_of q (cond (q == number) (grown_actor entry (cell.acted.clients number)) (cell.acted.clients q)).history) (cell.sizes q)
        ≡ cond (q == number) (option_map (λ c. client_after c entry) (option_map (client_of number (cell.acted.clients number).history) (cell.sizes number))) (option_map (client_of q (cell.acted.clients q).history) (cell.sizes q))
    at q = elim (q == number) as (λ b. (q == number) ≡ b → option_map (client_of q (cond b (grown_actor entry (cell.acted.clients number)) (cell.acted.clients q)).history) (cell.sizes q)
        ≡ cond b (option_map (λ c. client_after c entry) (option_map (client_of number (cell.acted.clients number).history) (cell.sizes number))) (option_map (client_of q (cell.acted.clients q).history) (cell.sizes q))) [
          | true ↦ λ e. ap (λ n. option_map (client_of n ((cell.acted.clients number).history ++ entry ∷ [])) (cell.sizes n)) (eqb-true q number e) ∙ client_more number (cell.acted.clients number).history entry (cell.sizes number)
          | false ↦ λ e. refl
        ] refl

-- a replica with one entry more, where the entry is of its server
replica_more : (histories : ℕ → List ReplicaEntry) (volume server home : ℕ) (entry : ReplicaEntry) (new : List ReplicaEntry) → new ≡ cond (home == server) (histories server ++ entry ∷ []) (histories home)
    → replica_after_all (new_replica home volume) new ≡ replica_after_at server entry (replica_after_all (new_replica home volume) (histories home))
replica_more histories volume server home entry new is =
    let r = replica_after_all (new_replica home volume) (histories home) in
    ap (replica_after_all (new_replica home volume)) is
    ∙ elim (home == server) as (λ b. (home == server) ≡ b → replica_after_all (new_replica home volume) (cond b (histories server ++ entry ∷ []) (histories home)) ≡ cond b (replica_after r entry) r) [
      | true ↦ λ e. ap (λ s. replica_after_all (new_replica home volume) (histories s ++ entry ∷ [])) (sym (eqb-true home server e)) ∙ replica_push (new_replica home volume) (histories home) entry
      | false ↦ λ e. refl
    ] refl
    ∙ ap (λ s. cond (s == server) (replica_after r entry) r) (sym (server_stays (new_replica home volume) (histories home)))

pub replica_grown : (cell : MadeCell) (server volume : ℕ) (entry : ReplicaEntry) → state_of (grown cell (Entered (AtReplica server volume entry))) ≡ after (state_of cell) (Entered (AtReplica server volume entry))
replica_grown cell server volume entry = λ i. record (state_of cell) { replicas = λ v. at v i }
  where
    here : (o : Option ℕ) → option_map (λ home. replica_after_all (new_replica home volume) (cond ((home == server) && true) (grown_actor entry (cell.acted.replicas server volume)) (cell.acted.replicas home volume)).history) o
        ≡ option_map (replica_after_at server entry) (option_map (replica_of (λ s. (cell.acted.replicas s volume).history) volume) o)
    here None = refl
    here (Some home) = ap Some (replica_more (λ s. (cell.acted.replicas s volume).history) volume server home entry _ (
        elim (home == server) as (λ b. (cond (b && true) (grown_actor entry (cell.acted.replicas server volume)) (cell.acted.replicas home volume)).history ≡ cond b ((cell.acted.replicas server volume).history ++ entry ∷ []) (cell.acted.replicas home volume).history) [ true ↦ refl | false ↦ refl ]))

    elsewhere : (v : ℕ) (o : Option ℕ) → option_map (λ home. replica_after_all (new_replica home v) (cond ((home == server) && false) (grown_actor entry (cell.acted.replicas server volume)) (cell.acted.replicas home v)).history) o
        ≡ option_map (replica_of (λ s. (cell.acted.replicas s v).history) v) o
    elsewhere v None = refl
    elsewhere v (Some home) = ap (λ h. Some (replica_after_all (new_replica home v) h)) (elim (home == server) as (λ b. (cond (b && false) (grown_actor entry (cell.acted.replicas server volume)) (cell.acted.replicas home v)).history ≡ (cell.acted.replicas home v).history) [ true ↦ refl | false ↦ refl ])

    at : (v : ℕ) → option_map (λ home. replica_after_all (new_replica home v) (cond ((home == server) && (v == volume)) (grown_actor entry (cell.acted.replicas server volume)) (cell.acted.replicas home v)).history) (cell.homes v)
        ≡ cond (v == volume) (option_map (replica_after_at server entry) (option_map (replica_of (λ s. (cell.acted.replicas s volume).history) volume) (cell.homes volume))) (option_map (replica_of (λ s. (cell.acted.replicas s v).history) v) (cell.homes v))
    at v = elim (v == volume) as (λ b. (v == volume) ≡ b → option_map (λ home. replica_after_all (new_replica home v) (cond ((home == server) && b) (grown_actor entry (cell.acted.replicas server volume)) (cell.acted.replicas home v)).history) (cell.homes v)
        ≡ cond b (option_map (replica_after_at server entry) (option_map (replica_of (λ s. (cell.acted.replicas s volume).history) volume) (cell.homes volume))) (option_map (replica_of (λ s. (cell.acted.replicas s v).history) v) (cell.homes v))) [
          | true ↦ λ e. ap (λ w. option_map (λ home. replica_after_all (new_replica home w) (cond ((home == server) && true) (grown_actor entry (cell.acted.replicas server volume)) (cell.acted.replicas home w)).history) (cell.homes w)) (eqb-true v volume e) ∙ here (cell.homes volume)
          | false ↦ λ e. elsewhere v (cell.homes v)
        ] refl

-- a volume that is made now, on which nothing was done
pub volume_grown : (cell : MadeCell) (volume server : ℕ) → ((s : ℕ) → (cell.acted.replicas s volume).history ≡ []) → state_of (grown cell (VolumeMade volume server)) ≡ after (state_of cell) (VolumeMade volume server)
volume_grown cell volume server none = λ i. record (after (state_of cell) (VolumeMade volume server)) { replicas = λ v. at v i }
  where
    at : (v : ℕ) → option_map (replica_of (λ s. (cell.acted.replicas s v).history) v) (cond (v == volume) (Some server) (cell.homes v))
        ≡ cond (v == volume) (Some (new_replica server volume)) (option_map (replica_of (λ s. (cell.acted.replicas s v).history) v) (cell.homes v))
    at v = elim (v == volume) as (λ b. (v == volume) ≡ b → option_map (replica_of (λ s. (cell.acted.replicas s v).history) v) (cond b (Some server) (cell.homes v))
        ≡ cond b (Some (new_replica server volume)) (option_map (replica_of (λ s. (cell.acted.replicas s v).history) v) (cell.homes v))) [
          | true ↦ λ e. ap (λ w. Some (replica_after_all (new_replica server w) (cell.acted.replicas server w).history)) (eqb-true v volume e) ∙ ap (λ h. Some (replica_after_all (new_replica server volume) h)) (none server)
          | false ↦ λ e. refl
        ] refl

-- a client that is made now and did nothing
pub client_made : (cell : MadeCell) (client blocks : ℕ) → (cell.acted.clients client).history ≡ [] → state_of (grown cell (ClientMade client blocks)) ≡ after (state_of cell) (ClientMade client blocks)
client_made cell client blocks none = λ i. record (after (state_of cell) (ClientMade client blocks)) { clients = λ q. at q i }
  where
    at : (q : ℕ) → option_map (client_of q (cell.acted.clients q).history) (cond (q == client) (Some blocks) (cell.sizes q))
        ≡ cond (q == client) (Some (new_client client blocks)) (option_map (client_of q (cell.acted.clients q).history) (cell.sizes q))
    at q = elim (q == client) as (λ b. (q == client) ≡ b → option_map (client_of q (cell.acted.clients q).history) (cond b (Some blocks) (cell.sizes q))
        ≡ cond b (Some (new_client client blocks)) (option_map (client_of q (cell.acted.clients q).history) (cell.sizes q))) [
          | true ↦ λ e. ap (λ n. Some (client_after_all (new_client n blocks) (cell.acted.clients n).history)) (eqb-true q client e) ∙ ap (λ h. Some (client_after_all (new_client client blocks) h)) none
          | false ↦ λ e. refl
        ] refl
