-- Documents in memory.
use Rattle.values.specs.FileMap.{Files}
use Rattle.outside.specs.declared.counts.Counts.{Counts}
use Rattle.outside.specs.declared.failing.Failing.{Failing}
use Rattle.outside.specs.declared.memory_docs.MemoryDocs.{MemoryDocs}

-- the documents that it holds
abbrev pub docs_files : MemoryDocs → Files
docs_files d = d.files

abbrev pub docs_failing : MemoryDocs → Failing
docs_failing d = d.failing

abbrev pub docs_counts : MemoryDocs → Counts
docs_counts d = d.counts
