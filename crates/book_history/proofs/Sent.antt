-- What may go from thread to thread.
use denote.Param.Send.{IsSend, IsSync, recorded_send, recorded_sync, struct_send, struct_sync, view_send, view_sync, sendable}
use denote.RattleType.{RattleType}
use denote.Struct.Declared.{shape}
use denote.Builtin.{u64}
use Rattle.std.proofs.Crossing.{crosses, frees, send, sync, Arc-send, Arc-sync}
use Rattle.std.specs.contracts.alloc.Global as global
use Rattle.std.specs.contracts.impls.GlobalAllocator.TheImpl as heap
use Rattle.indexmap.proofs.map.IndexMap.TheSendSync as map
use Rattle.indexmap.proofs.columns.Columns.TheSendSync as columns
use Rattle.indexmap.proofs.index_table.IndexTable.TheSendSync as table
use Rattle.std.proofs.hash.BuildHasherDefault.TheSendSync as build
use Rattle.std.proofs.hash.FoldHasher.TheSendSync as fold
use Rattle.std.proofs.rt.Memory.TheSendSync as memory
use Rattle.std.proofs.alloc.Global.TheSendSync as globals
use Rattle.layer_expr.proofs.expr.Operation.TheSendSync as operation
use Rattle.layer_expr.proofs.name.Name.TheSendSync as names
use Rattle.plane_base.proofs.base_layer.BaseLayer.TheSendSync as bases
use Rattle.layer_expr.proofs.expr.Node.TheLaws.TheKnot.{crosses as node_crosses}
use Rattle.layer_book.specs.contracts.layers.Layers as layers
use Rattle.layer_book.specs.contracts.layer.Layer as layer
use Rattle.layer_expr.specs.contracts.expr.Expr as expr
use Rattle.versions.specs.contracts.version.Version as version
use Rattle.versions.specs.contracts.version.Version.TheInside as inside
use Rattle.versions.specs.contracts.version.VersionContent as content
use Rattle.layer_tiles.specs.contracts.table.Table as tiles
use Rattle.layer_tiles.specs.contracts.tiles.TileRow as row
use Rattle.layer_tiles.proofs.tiles.RowParts.TheSendSync as parts
use Rattle.book_history.specs.contracts.published.PublishedAbsorb.TheImpl as absorb
use Rattle.book_history.specs.contracts.published.Published as published
use Rattle.book_history.specs.contracts.published.OnlyGrows as only_grows
use Rattle.book_history.specs.contracts.published.OnlyGrowsProtocolPublishedSeenLog.TheImpl as rule
use Rattle.book_history.specs.contracts.seen_log.SeenLog as seen_log
use Rattle.book_history.proofs.seen_log.SeenLog.TheSendSync as seen_logs
use Rattle.book_history.specs.contracts.seen_log.LogWord as word
use Rattle.book_history.specs.contracts.seen_log.LogWord.TheInside as word_inside
use Rattle.book_history.specs.contracts.seen_log.LogRule as log_rule
use Rattle.book_history.specs.contracts.seen_log.LogRuleRuleEntryU64.TheImpl as kept
use Rattle.book_history.specs.contracts.entry.Entry as written
use Rattle.logbook.proofs.word.Word.TheSendSync as words
use Rattle.left_right.specs.contracts.reader.Reader as reader
use Rattle.left_right.specs.contracts.writer.Writer as writer
use Rattle.left_right.proofs.reader.Reader.TheSendSync as readers
use Rattle.left_right.proofs.writer.Writer.TheSendSync as writers

ruleset all = (sendable, crosses, node_crosses, map.the_send, map.the_sync, columns.the_send, columns.the_sync, table.the_send, table.the_sync, build.the_send, build.the_sync, fold.the_send, fold.the_sync, memory.the_send, memory.the_sync, globals.the_send, globals.the_sync, operation.the_send, operation.the_sync, names.the_send, names.the_sync, bases.the_send, bases.the_sync)

pub expr_send : IsSend expr.the_row
expr_send = search all depth 20

pub expr_sync : IsSync expr.the_row
expr_sync = search all depth 20

pub layer_send : IsSend layer.the_row
layer_send = search (sendable, crosses, bases.the_send, bases.the_sync, expr_send, expr_sync) depth 20

pub layer_sync : IsSync layer.the_row
layer_sync = search (sendable, crosses, bases.the_send, bases.the_sync, expr_send, expr_sync) depth 20

pub layers_send : IsSend layers.the_row
layers_send = search (all, layer_send) depth 20

pub layers_sync : IsSync layers.the_row
layers_sync = search (all, layer_sync) depth 20

pub row_send : IsSend row.the_row
row_send = search (all, parts.the_send, parts.the_sync) depth 20

pub row_sync : IsSync row.the_row
row_sync = search (all, parts.the_send, parts.the_sync) depth 20

pub tiles_send : IsSend tiles.the_row
tiles_send = search (all, layers_send, layers_sync, row_send) depth 20

pub tiles_sync : IsSync tiles.the_row
tiles_sync = search (all, layers_send, layers_sync, row_sync) depth 20

pub content_send : IsSend (content.the_field).row
content_send = search (sendable, crosses, layers_send, tiles_send, tiles_sync) depth 20

pub content_sync : IsSync (content.the_field).row
content_sync = search (sendable, crosses, layers_sync, tiles_send, tiles_sync) depth 20

inside_send : IsSend inside.the_row
inside_send =
    let O = inside.the_type in
    recorded_send _ _ _ O.to_one (struct_send (shape O) (search sendable depth 20, (search sendable depth 20, (content_send, tt))))

inside_sync : IsSync inside.the_row
inside_sync =
    let O = inside.the_type in
    recorded_sync _ _ _ O.to_one (struct_sync (shape O) (search sendable depth 20, (search sendable depth 20, (content_sync, tt))))

pub version_send : IsSend version.the_row
version_send = view_send inside.the_row _ _ _ _ inside_send

pub version_sync : IsSync version.the_row
version_sync = view_sync inside.the_row _ _ _ _ inside_sync

pub published_sync : IsSync published.the_row
published_sync =
    let O = published.the_type in
    recorded_sync _ _ _ O.to_one (struct_sync (shape O) (Arc-sync version.the_row version_send version_sync, (seen_logs.the_sync, tt)))

pub published_send : IsSend published.the_row
published_send =
    let O = published.the_type in
    recorded_send _ _ _ O.to_one (struct_send (shape O) (Arc-send version.the_row version_send version_sync, (seen_logs.the_send, tt)))

pub place_send : IsSend (reader.the_row published.the_row seen_log.the_row only_grows.the_row global.the_row rule.ghosts heap.ghosts)
place_send = readers.the_send published.the_row seen_log.the_row only_grows.the_row global.the_row rule.ghosts heap.ghosts send published_sync sync frees

pub publisher_send : IsSend (writer.the_row published.the_row published.the_row seen_log.the_row only_grows.the_row global.the_row seen_log.the_row absorb.ghosts rule.ghosts heap.ghosts)
publisher_send = writers.the_send published.the_row published.the_row seen_log.the_row only_grows.the_row global.the_row seen_log.the_row absorb.ghosts rule.ghosts heap.ghosts published_send published_send send published_sync sync frees

word_inside_send : (J : RattleType) → IsSend (word_inside.the_row J)
word_inside_send J =
    let O = word_inside.the_type J in
    recorded_send _ _ _ O.to_one (struct_send (shape O) (words.the_send written.the_row u64 log_rule.the_row kept.ghosts, (search sendable, tt)))

pub word_send : (J : RattleType) → IsSend (word.the_row J)
word_send J = view_send (word_inside.the_row J) _ _ _ _ (word_inside_send J)
