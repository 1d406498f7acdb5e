use Rattle.std.proofs.Common.{◌≡◌, ◌∙◌, length, drop, sym, ap, arith}
use Rattle.std.proofs.lemmas.List.{length-drop}
use Rattle.deb_fetch.proofs.Cuts.{cut_on, whole_on}
use Rattle.deb_fetch.proofs.paragraphs.first_paragraph.Goals as goal

pub returns-then-is_separator-clause-cut : goal.returns-then-is_separator-clause-cut
returns-then-is_separator-clause-cut c =
    cut_on c.args.text.now c.split_at.result.1.now c.split_at-then-is_separator.result.0.now c.split_at-then-is_separator.result.1.now c.loop-at.at c.line_feed-feed.result c.split_at.ensures.back c.line_feed-feed.ensures.place c.line_feed-feed.ensures.within
    c.if-feed-rest.false c.loop-at.invariant.whole (sym c.is_separator.ensures ∙ c.if-is_separator.true) c.split_at-then-is_separator.ensures.front c.split_at-then-is_separator.ensures.back

pub loop-at-preserved : goal.loop-at-preserved
loop-at-preserved c =
    let rest_is : length c.split_at.result.1.now ≡ length (drop c.loop-at.at c.args.text.now) = ap length c.split_at.ensures.back in
    record {
      within = omega (arith, rest_is, length-drop c.loop-at.at c.args.text.now, c.line_feed-feed.ensures.within, c.if-feed-rest.false, c.loop-at.invariant.within);
      whole = whole_on c.args.text.now c.split_at.result.1.now c.loop-at.at c.line_feed-feed.result c.split_at.ensures.back c.line_feed-feed.ensures.place c.line_feed-feed.ensures.within c.if-feed-rest.false c.loop-at.invariant.whole;
    }
