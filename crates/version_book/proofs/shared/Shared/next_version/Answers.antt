use Rattle.version_book.proofs.Results.{news_book, news_durable, news_given, news_goes, news_history, news_newest, news_none}
use Rattle.std.specs.Arc.{arc_value}
use Rattle.version_book.proofs.shared.Shared.next_version.Goals as goal

pub returns : goal.returns
returns g c =
    let s = c.tell_news in
    let me = c.args.me.now in
    let new = s.new.me in
    let log = c.deref.result.now.log in
    let n = c.deref.result.now.state.news in
    let e = s.ensures in
    record {
      goes_on = news_goes me new log n s.result _ _ _ _ _ c.given-given.ensures.begun e.some e.news e.none e.err;
      history = news_history me new log n s.result _ _ _ _ _ _ c.given-given.ensures.valid e.some e.news e.none e.err;
      newest = news_newest me new log n s.result arc_value _ _ _ e.some e.news;
      news = news_given me new log n s.result e.news;
      none = news_none me new log n s.result _ _ e.none;
      durable = news_durable me new log n s.result _ _ _ _ _ _ e.some e.news e.none e.err;
      err = e.err;
      same = news_book me new log n s.result _ _ _ _ e.news e.none e.err;
    }
