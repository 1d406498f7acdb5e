use Rattle.http_method.specs.Line.{line_of}
use Rattle.http_method.proofs.Ending.{finish_all, line_stays}
use Rattle.http_method.proofs.saying.finish.Goals as goal

pub returns-clause-says : goal.returns-clause-says
returns-clause-says g c =
    let line = line_of g.L.Link in
    (finish_all c.one_reading.ensures c.endings_stay.ensures.followed c.endings_stay.ensures.ended c.wires_tell.ensures (line c.args.link.now) (line c.keep_open-kept.new.connection) c.args.reading c.reply-reply.result
    c.word_of.result c.keep_open-kept.result c.is_file.result c.is_kept-keep.result c.state.result
    c.word_of.ensures c.keep_open-kept.ensures.kept c.is_file.ensures c.is_kept-keep.ensures.kept c.state.ensures (line_stays g.L.Link c.args.link.now c.keep_open-kept.new.connection c.keep_open-kept.ensures.frame) c.requires.is c.requires.over c.requires.all c.reply-reply.ensures.replies).says

pub returns-clause-told : goal.returns-clause-told
returns-clause-told g c =
    let line = line_of g.L.Link in
    (finish_all c.one_reading.ensures c.endings_stay.ensures.followed c.endings_stay.ensures.ended c.wires_tell.ensures (line c.args.link.now) (line c.keep_open-kept.new.connection) c.args.reading c.reply-reply.result
    c.word_of.result c.keep_open-kept.result c.is_file.result c.is_kept-keep.result c.state.result
    c.word_of.ensures c.keep_open-kept.ensures.kept c.is_file.ensures c.is_kept-keep.ensures.kept c.state.ensures (line_stays g.L.Link c.args.link.now c.keep_open-kept.new.connection c.keep_open-kept.ensures.frame) c.requires.is c.requires.over c.requires.all c.reply-reply.ensures.replies).told

pub returns-clause-keeps : goal.returns-clause-keeps
returns-clause-keeps g c =
    let line = line_of g.L.Link in
    (finish_all c.one_reading.ensures c.endings_stay.ensures.followed c.endings_stay.ensures.ended c.wires_tell.ensures (line c.args.link.now) (line c.keep_open-kept.new.connection) c.args.reading c.reply-reply.result
    c.word_of.result c.keep_open-kept.result c.is_file.result c.is_kept-keep.result c.state.result
    c.word_of.ensures c.keep_open-kept.ensures.kept c.is_file.ensures c.is_kept-keep.ensures.kept c.state.ensures (line_stays g.L.Link c.args.link.now c.keep_open-kept.new.connection c.keep_open-kept.ensures.frame) c.requires.is c.requires.over c.requires.all c.reply-reply.ensures.replies).keeps
