-- What letters that are posted and lost leave of a site.
use Rattle.std.proofs.Common.{◌≡◌, ℕ, ◌+◌, Bool, List, [], ◌∷◌, ◌++◌, map, Option, Some, None, refl, sym, subst, ◌∙◌}
use Rattle.coda_disk.specs.Told.{Told}
use Rattle.coda_net.specs.Pool.{Pool}
use Rattle.coda_letters.specs.Sent.{Sent, Waiting, AreLetters, put_out, number_of, without, with_sent}
use Rattle.coda_letters.specs.Calls.{IsPosted, IsSent, IsSentAs}
use Rattle.coda_cell.specs.Cells.{IsNetwork}
use Rattle.coda_cell.specs.Messages.{posting, going_by, going}
use Rattle.coda_cell.specs.Runs.{AreNumbered}
use Rattle.coda_cell.specs.State.{Event, VolumeMade, ClientMade, Ticked, LinkSet, Entered, Posted, Lost, Used, Kept, Stale, CellState, after_all as state_after_all}
use Rattle.coda_cell.proofs.CarriedLetters.{linked_same, network_posted, posting_after}
use Rattle.coda_shelves.specs.Cells.{Cell, state_of, after, after_all}
use Rattle.coda_shelves.specs.Lines.{Fits as FitsEvents}
use Rattle.coda_site.specs.Sites.{IsSite, IsReady}
use Rattle.coda_site.specs.declared.site.Site.{Site}

-- a site with another network
abbrev pub with_net : {D : Type 0} → Site D → Pool → Site D
with_net site net = record site { net = net }

-- events of letters alone
abbrev AreMail : List Event → Type 0
AreMail [] = Unit {0}
AreMail (VolumeMade volume server ∷ events) = ⊥
AreMail (ClientMade client blocks ∷ events) = ⊥
AreMail (Ticked seconds ∷ events) = ⊥
AreMail (LinkSet client server strength ∷ events) = ⊥
AreMail (Entered append ∷ events) = ⊥
AreMail (Used c fids ∷ events) = ⊥
AreMail (Kept c s fid ∷ events) = ⊥
AreMail (Stale c fids ∷ events) = ⊥
AreMail (Posted sent ∷ events) = AreMail events
AreMail (Lost message ∷ events) = AreMail events

lost_mail : (going : Waiting) (sent : Sent) → AreMail (map (λ l. Lost l.0) going ++ Posted sent ∷ [])
lost_mail [] sent = tt
lost_mail (l ∷ going) sent = lost_mail going sent

posting_mail : (sent : Sent) (waiting : Waiting) → AreMail (posting sent waiting)
posting_mail sent waiting = lost_mail (put_out sent waiting) sent

-- no disk keeps them
mail_fits : (cell : Cell) (events : List Event) → AreMail events → FitsEvents cell events
mail_fits cell [] are = tt
mail_fits cell (VolumeMade volume server ∷ events) are = absurd are
mail_fits cell (ClientMade client blocks ∷ events) are = absurd are
mail_fits cell (Ticked seconds ∷ events) are = absurd are
mail_fits cell (LinkSet client server strength ∷ events) are = absurd are
mail_fits cell (Entered append ∷ events) are = absurd are
mail_fits cell (Used c fids ∷ events) are = absurd are
mail_fits cell (Kept c s fid ∷ events) are = absurd are
mail_fits cell (Stale c fids ∷ events) are = absurd are
mail_fits cell (Posted sent ∷ events) are = (tt, mail_fits (after cell (Posted sent)) events are)
mail_fits cell (Lost message ∷ events) are = (tt, mail_fits (after cell (Lost message)) events are)

-- a cell with other letters
abbrev with_mail : Cell → Cell → Cell
with_mail cell new = record cell { waiting = new.waiting; posted = new.posted }

-- they leave all else as it was
mail_left : (cell : Cell) (events : List Event) → AreMail events → after_all cell events ≡ with_mail cell (after_all cell events)
mail_left cell [] are = refl
mail_left cell (VolumeMade volume server ∷ events) are = absurd are
mail_left cell (ClientMade client blocks ∷ events) are = absurd are
mail_left cell (Ticked seconds ∷ events) are = absurd are
mail_left cell (LinkSet client server strength ∷ events) are = absurd are
mail_left cell (Entered append ∷ events) are = absurd are
mail_left cell (Used c fids ∷ events) are = absurd are
mail_left cell (Kept c s fid ∷ events) are = absurd are
mail_left cell (Stale c fids ∷ events) are = absurd are
mail_left cell (Posted sent ∷ events) are = mail_left (after cell (Posted sent)) events are
mail_left cell (Lost message ∷ events) are = mail_left (after cell (Lost message)) events are

-- what waits then
mail_shown : (cell : Cell) (events : List Event) → AreMail events → state_of (after_all cell events) ≡ state_after_all (state_of cell) events
mail_shown cell [] are = refl
mail_shown cell (VolumeMade volume server ∷ events) are = absurd are
mail_shown cell (ClientMade client blocks ∷ events) are = absurd are
mail_shown cell (Ticked seconds ∷ events) are = absurd are
mail_shown cell (LinkSet client server strength ∷ events) are = absurd are
mail_shown cell (Entered append ∷ events) are = absurd are
mail_shown cell (Used c fids ∷ events) are = absurd are
mail_shown cell (Kept c s fid ∷ events) are = absurd are
mail_shown cell (Stale c fids ∷ events) are = absurd are
mail_shown cell (Posted sent ∷ events) are = mail_shown (after cell (Posted sent)) events are
mail_shown cell (Lost message ∷ events) are = mail_shown (after cell (Lost message)) events are

module _ {D : Type 0} (told : D → Told) (out : ℕ → Bool) (has : ℕ → Told) (cell : Cell) (site : Site D) (is : IsSite told out has cell site) (net : Pool) where
  -- the site with another network
  mail_site : (events : List Event) → AreMail events → IsNetwork cell.links (after_all cell events).waiting (after_all cell events).posted net → IsSite told out has (after_all cell events) (with_net site net)
  mail_site events are network = subst (λ (c : Cell). IsSite told out has c (with_net site net)) (sym (mail_left cell events are)) (record {
    clock = is.clock;
    servers = is.servers;
    homes = is.homes;
    places = is.places;
    areas = is.areas;
    clients = is.clients;
    replicas = is.replicas;
    net = network;
  })

  -- something is posted
  module _ (sent : Sent) (number : ℕ) (posted : IsPosted cell.waiting sent site.net number net) (links : net.links ≡ site.net.links) where
    abbrev state : CellState
    state = state_of cell

    posts : IsNetwork state.links (with_sent (state.posted + 1) sent state.waiting) (state.posted + 1) net × (number ≡ state.posted + 1)
    posts = network_posted state sent site.net net number is.net posted links

    shown : AreNumbered 0 cell.posted cell.waiting → state_of (after_all cell (posting sent cell.waiting)) ≡ record state { waiting = with_sent (state.posted + 1) sent state.waiting; posted = state.posted + 1 }
    shown numbered = mail_shown cell (posting sent cell.waiting) (posting_mail sent cell.waiting) ∙ posting_after state sent 0 cell.posted numbered

    pub posted_site : AreNumbered 0 cell.posted cell.waiting → IsSite told out has (after_all cell (posting sent cell.waiting)) (with_net site net)
    posted_site numbered = mail_site (posting sent cell.waiting) (posting_mail sent cell.waiting)
        (subst (λ (s : CellState). IsNetwork cell.links s.waiting s.posted net) (sym (shown numbered)) posts.0)

    pub posted_number : number ≡ cell.posted + 1
    posted_number = posts.1

  pub posting_fits : (sent : Sent) → FitsEvents cell (posting sent cell.waiting)
  posting_fits sent = mail_fits cell (posting sent cell.waiting) (posting_mail sent cell.waiting)

  -- something is sent: it waits already, or is posted
  module _ (sent : Sent) (number : ℕ) (links : net.links ≡ site.net.links) where
    sent_by : (o : Option ℕ) → AreNumbered 0 cell.posted cell.waiting → IsSentAs o cell.waiting sent site.net number net → FitsEvents cell (going_by o sent (state_of cell)).events × IsSite told out has (after_all cell (going_by o sent (state_of cell)).events) (with_net site net)
        × (number ≡ (going_by o sent (state_of cell)).message)
    sent_by (Some first) numbered went = (tt, subst (λ (n : Pool). IsSite told out has cell (with_net site n)) (sym went.1) is, went.0)
    sent_by None numbered went = (posting_fits sent, posted_site sent number went links numbered, posted_number sent number went links)

    pub sent_site : AreNumbered 0 cell.posted cell.waiting → IsSent cell.waiting sent site.net number net → FitsEvents cell (going sent (state_of cell)).events × IsSite told out has (after_all cell (going sent (state_of cell)).events) (with_net site net)
        × (number ≡ (going sent (state_of cell)).message)
    sent_site numbered went = sent_by (number_of sent cell.waiting) numbered went

  -- a letter is lost
  pub lost_site : (message : ℕ) → AreLetters (without message cell.waiting) net → net.posted ≡ site.net.posted → net.links ≡ site.net.links → IsSite told out has (after cell (Lost message)) (with_net site net)
  lost_site message letters posted links = mail_site (Lost message ∷ []) tt (record {
    links_are = λ client server. is.net.links_are client server ∙ linked_same site.net net links client server;
    letters = letters;
    posted_are = is.net.posted_are ∙ sym posted;
  })

  -- or none is
  pub unlost_site : AreLetters cell.waiting net → net.posted ≡ site.net.posted → net.links ≡ site.net.links → IsSite told out has cell (with_net site net)
  unlost_site letters posted links = mail_site [] tt (record {
    links_are = λ client server. is.net.links_are client server ∙ linked_same site.net net links client server;
    letters = letters;
    posted_are = is.net.posted_are ∙ sym posted;
  })

-- a site is one still with another network
pub net_ready : {D : Type 0} (told : D → Told) (out : ℕ → Bool) (site : Site D) (net : Pool) → IsReady told out site → IsReady told out (with_net site net)
net_ready told out site net ready = record {
  clients = ready.clients;
  replicas = ready.replicas;
  clients_own = ready.clients_own;
  replicas_own = ready.replicas_own;
  few = ready.few;
  places = ready.places;
  made = ready.made;
  areas = ready.areas;
}
