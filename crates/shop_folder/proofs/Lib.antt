mod FilesFound
