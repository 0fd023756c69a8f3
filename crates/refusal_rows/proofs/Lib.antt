mod EachRow
