-- Over erasures alone a transport block that is handed up is the one sent, for each block and each round.
use Rattle.nr_linkcommands.proofs.Common.{AcceptedSendAll, Ok, ProcessRound, Transmission, rounds_ended, senders_from, sending_said}
use Rattle.nr_linkcommands.proofs.Common.{All, Bool, Err, Link, List, Result, cond, false, get_or, length, sym, true, ℕ, IsLink}
use Rattle.nr_linkcommands.proofs.Common.{All-head, DeskFault, [], rounds_of, ◌>>=◌, ◌∷◌, ◌≡◌, link_said, processes}
use Rattle.nr_linkcommands.proofs.Common.{SenderView, arith, ended_with, All-append, All-filter, All-weaker, IfOk-at_ok, OnlyErases}
use Rattle.nr_linkcommands.proofs.Common.{All-tail, Entries, Settings, round_of, ◌++◌, ◌+◌, ◌==◌, All-cons, All-nil}
use Rattle.nr_linkcommands.specs.SafeRuns.{ErasuresAloneAreSafe, IsSafeRun, IsSafelyReceived, RunsAreSafe}
use Rattle.nr_linkcommands.proofs.{ReceptionFacts.received-accepted, ReceptionFacts.received-explained, RoundTextFacts.round-all}
use Rattle.std.proofs.{Common.IfOk, lemmas.List.Elements.All-map, lemmas.List.Elements.All-push}
use Rattle.nr_refusal.specs.Refusal.{with_fault}
use Rattle.nr_blockdesk.{specs.Link.IsBlock, specs.Link.LinksAreSound, proofs.LinkFacts.link-blocks, proofs.LinkFacts.made-of}
use Rattle.nr_blockdesk.specs.ReceiverLaws.{DeliveredIsOnly, ExplainedIsDelivered, ExplainedNeverContradicts}
use Rattle.nr_bitvec.specs.BitList.{bits_of}
use Rattle.nr_commands.specs.declared.fault.RunFault.TheVariants.{Desk}
use Rattle.nr_files.proofs.RefusalFacts.{holds_then}

-- ---- erasures alone

pub sender-linked : (table : Entries) (settings : Settings) (sender : SenderView)
    → sending_said table settings sender.block ≡ Ok sender → link_said table settings (length sender.block) ≡ Ok sender.link
sender-linked table settings sender said = (made-of sender sender.block (link_said table settings (length sender.block)) said).0

pub erasures_alone : LinksAreSound → AcceptedSendAll → DeliveredIsOnly → ExplainedIsDelivered → ExplainedNeverContradicts
    → ErasuresAloneAreSafe
erasures_alone sound all only is_delivered never table settings sender xs is_table said steady =
    let linked : link_said table settings (length sender.block) ≡ Ok sender.link = sender-linked table settings sender said in
    let is_link : IsLink sender.link = sound table settings (length sender.block) sender.link is_table linked in
    let is_block : IsBlock sender.link sender.block = link-blocks table settings (length sender.block) sender.link linked in
    let accepted = received-accepted all sender xs in
    let explained = received-explained all sender xs steady in
    record {
      explained = explained;
      no_contradiction = never sender.link _ sender.block is_block explained;
      sent_one = λ block is. sym ((only sender.link _ block is_link accepted is).only sender.block is_block explained);
      found = λ fixed. is_delivered sender.link _ sender.block is_link accepted is_block explained fixed;
    }

-- the transmissions of each round are among those of the schedule
abbrev Each : (Transmission → Type 0) → ProcessRound → Type 0
Each P round = All P round.1

ended-some : (P : Transmission → Type 0) (before xs : List Transmission) → All P before → All P xs
    → All (Each P) (rounds_ended before xs)
unfolding rounds_ended
ended-some P before [] old all = All-nil (Each P)
ended-some P before (x ∷ xs) old all =
    All-append (Each P) (ended_with before x) (rounds_ended (before ++ x ∷ []) xs) (go x.fresh)
    (ended-some P (before ++ x ∷ []) xs (All-push P before x old (All-head P x xs all)) (All-tail P x xs all))
  where
    go : (b : Bool) → All (Each P) (cond b ((x.process, round_of x.process before) ∷ []) [])
    go true = All-cons (Each P) _ [] (round-all P x.process before old) (All-nil (Each P))
    go false = All-nil (Each P)

rounds-some : (P : Transmission → Type 0) (schedule : List Transmission) → All P schedule
    → All (Each P) (rounds_of true 0 schedule)
rounds-some P schedule all =
    All-append (Each P) (rounds_ended [] schedule) _ (ended-some P [] schedule (All-nil P) all)
    (All-map (Each P) (λ p. (p, round_of p schedule)) (processes true 0)
    (λ k d within. round-all P (get_or (processes true 0) k d) schedule all))

-- each sender is that of its block
sender-own : (table : Entries) (settings : Settings) (n : ℕ) (octets : List ℕ) (sender : SenderView) (r : Result Link DeskFault)
    → link_said table settings (length (bits_of octets)) ≡ r
    → with_fault (Desk n) (r >>= λ link. Ok (record { link = link; block = bits_of octets })) ≡ Ok sender
    → sending_said table settings sender.block ≡ Ok sender
sender-own table settings n octets sender (Ok link) said is = grind arith
sender-own table settings n octets sender (Err e) said is = absurd (cc)

pub senders-own : (table : Entries) (settings : Settings) (n : ℕ) (blocks : List (List ℕ))
    → IfOk (senders_from table settings n blocks)
    (All (λ (sender : SenderView). sending_said table settings sender.block ≡ Ok sender))
unfolding senders_from
senders-own table settings n [] = All-nil (λ (sender : SenderView). sending_said table settings sender.block ≡ Ok sender)
senders-own table settings n (octets ∷ blocks) =
    grind (arith, holds_then, sender-own, IfOk-at_ok, senders-own table settings (n + 1) blocks)

pub runs_safe : ErasuresAloneAreSafe → RunsAreSafe
runs_safe safe table settings blocks senders schedule is_table said steady =
    All-weaker (λ (sender : SenderView). sending_said table settings sender.block ≡ Ok sender) (IsSafeRun schedule) run senders
    (IfOk-at_ok (All (λ (sender : SenderView). sending_said table settings sender.block ≡ Ok sender)) said
    (senders-own table settings 1 blocks))
  where
    run : (sender : SenderView) → sending_said table settings sender.block ≡ Ok sender → IsSafeRun schedule sender
    run sender is = record {
      blocks = λ n. safe table settings sender _ is_table is (All-filter (λ x. x.block == n) OnlyErases schedule steady);
      rounds = All-weaker (Each OnlyErases) (λ (round : ProcessRound). IsSafelyReceived sender round.1)
          (λ round steady_round. safe table settings sender round.1 is_table is steady_round) (rounds_of true 0 schedule)
          (rounds-some OnlyErases schedule steady);
    }
