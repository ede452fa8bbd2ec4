use Rattle.std.proofs.Common.{◌≡◌, false, sym, ap, ◌∙◌, ne_eqb}
use Rattle.replay.specs.Replay.{headed, outcome_of}
use Rattle.replay.specs.ReplayLaws.{replay_headed}
use Rattle.replay.specs.Heading.{headed_good, headed_bad}
use Rattle.replay.specs.Playing.{play_bare}
use Rattle.replay.specs.Telling.{tells_headed, tells_bare}
use Rattle.replay.specs.Ahead.{opened}
use Rattle.journal.specs.Answers.{opening}
use Rattle.replay.proofs.walk.Goals as goal
use Rattle.replay.proofs.walk.Goals.{in-Ok+else-header-book, in_default}

pub records-requires : goal.records-requires
records-requires c = ((opened c.args.s.now (sym c.header.ensures ∙ ap opening c.in-Ok.is)).within, c.requires)

pub returns-then-header-book : goal.returns-then-header-book
returns-then-header-book c =
    let s = c.args.s.now in
    let o = sym c.header.ensures ∙ ap opening c.in-Ok.is in
    let t = c.if-header-book.true in
    record {
      outcome = c.records.ensures.outcome ∙ sym (ap (outcome_of 0) (replay_headed _ _ o t));
      wrote = tells_headed c.args.book _ o t c.put_edition-past.ensures c.records.ensures.wrote;
    }

pub returns : goal.returns
returns c =
    let n = c.args.book.settings.edition in
    let s = c.args.s.now in
    let h : headed n s ≡ false =
    elim c.match-header.branch [
      | in-Ok+else-header-book w ↦ headed_good s n (sym c.header.ensures ∙ ap opening w.in-Ok.is) ∙ ne_eqb _ n w.if-header-book.false
      | in_default w ↦ headed_bad s n (sym c.header.ensures ∙ ap opening w.in_default.is)
    ] in
    record {
      outcome = c.finish.ensures.outcome ∙ play_bare _ h c.requires;
      wrote = tells_bare c.args.book _ h c.put_mark-p.ensures c.finish.ensures.wrote;
    }
