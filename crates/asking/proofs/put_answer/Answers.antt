use Rattle.std.proofs.Common.{◌∙◌, ap, ℕ, ◌-◌, List, [], ◌∷◌, Option}
use Rattle.sheet.specs.SheetLaws.{retext}
use Rattle.lists.specs.declared.Wanted.{Wanted}
use Rattle.lists.specs.Wanted.{wanted_of}
use Rattle.lists.specs.Listing.{offers_of}
use Rattle.book.specs.Stored.{model_of}
use Rattle.query.specs.Held.{offers_held}
use Rattle.query.specs.Questions.{reply_to}
use Rattle.asking.specs.Answers.{row_of, reply_line, reply_in}
use Rattle.asking.specs.Questions.{list_text, schedule_text, negotiation_text}
use Rattle.asking.specs.QuestionLaws.{by_list, by_schedule, by_active, by_negotiation, by_lookup}
use Rattle.asking.specs.ReplyLaws.{reply_in_lem, reply_short}
use Rattle.asking.proofs.put_answer.Goals as goal

pub returns-then-tag-lt112 : goal.returns-then-tag-lt112
returns-then-tag-lt112 c =
    let s = c.args in
    retext c.put_list.ensures
    (ap (λ (x : Option Wanted). list_text x (offers_of c.offers_only-offers.result)) c.asked-asked.ensures
    ∙ ap (λ (k : ℕ). list_text (wanted_of k s.a s.b) (offers_of c.offers_only-offers.result)) c.past.ensures
    ∙ ap (list_text (wanted_of (s.tag - 0x60) s.a s.b)) (ap offers_of c.offers_only-offers.ensures ∙ offers_held c.requires.shelved)
    ∙ by_list (model_of s.book) s.a s.b c.if-tag-lt112.true)

pub returns-then-tag-eq116 : goal.returns-then-tag-eq116
returns-then-tag-eq116 c =
    let s = c.args in
    let m = model_of s.book in
    retext c.put_schedule.ensures
    (ap (λ (w : List ℕ). schedule_text (reply_in w)) c.lookup-words.ensures ∙ ap schedule_text (reply_in_lem _ (reply_short 4 s.a s.b m))
    ∙ by_schedule m s.a s.b c.if-tag-lt112.false c.if-tag-eq116.true)

pub returns-then-tag-eq126 : goal.returns-then-tag-eq126
returns-then-tag-eq126 c =
    let s = c.args in
    retext c.put_row.ensures
    (ap (λ (n : ℕ). row_of (0 ∷ n ∷ [])) c.active_of.ensures ∙ by_active (model_of s.book) s.a s.b c.if-tag-lt112.false c.if-tag-eq116.false c.if-tag-eq126.true)

pub returns-then-tag-eq127 : goal.returns-then-tag-eq127
returns-then-tag-eq127 c =
    let s = c.args in
    retext c.put_negotiation.ensures
    (ap negotiation_text c.negotiation_of-g.ensures ∙ by_negotiation (model_of s.book) s.a s.b c.if-tag-lt112.false c.if-tag-eq116.false c.if-tag-eq126.false c.if-tag-eq127.true)

pub returns : goal.returns
returns c =
    let s = c.args in
    let m = model_of s.book in
    retext c.put_reply.ensures
    (ap (λ (w : List ℕ). reply_line (reply_in w)) c.lookup-words-2.ensures ∙ ap reply_line (reply_in_lem _ (reply_short c.past-2.result s.a s.b m))
    ∙ ap (λ (k : ℕ). reply_line (reply_to k s.a s.b m)) c.past-2.ensures
    ∙ by_lookup m s.a s.b c.if-tag-lt112.false c.if-tag-eq116.false c.if-tag-eq126.false c.if-tag-eq127.false)
